-- The columns of a transition's numbers are kept, since it is in range.
use mathlib.Core.Path.{◌≡◌, sym, subst}
use mathlib.Core.List.{List}
use Prim.Native.Nat.{ℕ, ◌≤◌, ◌<◌}
use native.Mathlib.Omega.{arith}
use lib.ListN.{length, get_or}
use Rattle.columns.specs.inner.Kept.{ColumnKept, ColumnsKept}
use Rattle.lts.specs.Steps.{Step, Table, labels}
use Rattle.lts.specs.inner.Range.{StepInRange}
use Rattle.lts.specs.inner.Prepared.{table_in, transition_at}
use Rattle.lts.specs.inner.HoldsTable.{HoldsTable}
use Rattle.lts.proofs.Lists.{get_d_mem}
use Rattle.lts.proofs.Laws.Contents.{transition_in}
use Rattle.written_lines.specs.inner.Lines.{NumbersKept}

-- As many as the larger of both counts are enough.
pub both-kept : (t : Table) (kept : List ℕ) (count : ℕ) → ColumnsKept count kept → t.states ≤ count → labels t < count → NumbersKept t kept
both-kept t kept count c s l = record { of_states_lem = λ n h. c n (omega arith); of_labels = λ n h. c n (omega arith) }

module _ {b kept : List ℕ} {k : ℕ} (held : HoldsTable b) (few : k < length (table_in b).transitions) (numbers : NumbersKept (table_in b) kept)
    (st : Step) (is : st ≡ transition_at b k) where
  in_range : StepInRange (table_in b) st
  in_range =
      let d = transition_at b k in
      subst (StepInRange (table_in b)) (sym is) (subst (StepInRange (table_in b)) (transition_in b k d few)
      (held.in_range.steps_in_range (get_or (table_in b).transitions k d) (get_d_mem (table_in b).transitions k d few)))

  pub from-kept : ColumnKept st.from kept
  from-kept = numbers.of_states_lem st.from in_range.leaves

  pub label_kept : ColumnKept st.label kept
  label_kept = numbers.of_labels st.label (omega (arith, in_range.labelled))

  pub to-kept : ColumnKept st.to kept
  to-kept = numbers.of_states_lem st.to in_range.enters
