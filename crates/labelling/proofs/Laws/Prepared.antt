-- The rows of a prepared formula's nodes, from the last node on.
use mathlib.Core.Path.{◌≡◌, sym, ap, ◌∙◌}
use mathlib.Core.Bool.{Bool, false}
use mathlib.Core.List.{List}
use mathlib.Core.Option.{some}
use Prim.Native.Nat.{ℕ, ◌≤◌, ◌<◌}
use native.Mathlib.Nat.{zero-add}
use native.Mathlib.Omega.{arith}
use lib.ListN.{length, get_or}
use Rattle.actl.specs.inner.Sizes.{node_positions}
use Rattle.lts.specs.Steps.{labels}
use Rattle.lts.specs.inner.Prepared.{table_in}
use Rattle.lts.specs.inner.HoldsTable.{HoldsTable}
use Rattle.actl.specs.Formulas.{Formula, root}
use Rattle.actl.specs.inner.Prepared.{prepared_formula}
use Rattle.actl.proofs.Nodes.{size_pos}
use Rattle.actl.proofs.Subformulas.{node_at_lem}
use Rattle.actl.proofs.Laws.Prepared.{prepared-count}
use Rattle.satisfaction.specs.inner.Holds.{holds}
use Rattle.until_search.specs.inner.Flags.{flag_at}
use Rattle.labelling.specs.inner.Nodes.{RowsFrom, NodesLabelled, AtStart}

module _ (table formula : List ℕ) where
  -- No row is asked for past the last node.
  pub rows_none : (flags : List Bool) → length flags ≡ node_positions → RowsFrom table formula (get_or formula 0 0) flags
  rows_none flags e = record {
    places = e;
    rows = λ F d. record { flag = λ j s l m h. absurd (omega (arith, prepared-count (labels (table_in table)) formula d)) };
  }

  pub rows_all : (k : ℕ) {flags : List Bool} → k ≤ 0 → RowsFrom table formula k flags → NodesLabelled table formula flags
  rows_all k h r = record {
    labelled = λ F d. record { places = r.places; flag = λ j s l m. (r.rows F d).flag j s (omega arith) l m };
  }

-- Node 0 is the root: its flag at a state tells whether the formula holds there.
pub root-flag : (table formula : List ℕ) (flags : List Bool) → NodesLabelled table formula flags
    → (F : Formula) → prepared_formula (labels (table_in table)) formula ≡ some F → (s : ℕ) → s < (table_in table).states
    → flag_at flags s ≡ holds (table_in table) F s
root-flag table formula flags d F f s h =
    ap (flag_at flags) (sym (zero-add s))
    ∙ ((d.labelled F f).flag 0 s (size_pos F) h ∙ ap (λ (g : Formula). holds (table_in table) g s) (node_at_lem {F = F} {k = 0} {f = F} root))

-- At the start it is the answer.
pub root-at-start : (table formula : List ℕ) → HoldsTable table → (flags : List Bool) → NodesLabelled table formula flags → (start : ℕ) → start ≡ (table_in table).start
    → AtStart table formula (get_or flags start false)
root-at-start table formula h flags d start e = record {
  answered = λ F f. ap (flag_at flags) e ∙ root-flag table formula flags d F f (table_in table).start h.in_range.starts;
}
