-- `is_prepared` meets its contract: each test is a part of being well-formed, and well-formed bytes are the prepared ones.
use mathlib.Core.Path.{◌≡◌, refl, sym, ap, ◌∙◌}
use mathlib.Core.Bool.{Bool, true, false, true≢false}
use mathlib.Core.List.{List}
use Prim.Native.Nat.{ℕ, ◌≤◌, ◌<◌}
use borrow.Author.Tests.{leb-true}
use lib.Dec.{leb}
use lib.ListN.{length, get_or}
use native.Mathlib.Omega.{arith}
use Rattle.lts.specs.Sizes.{table_length}
use Rattle.lts.specs.inner.Prepared.{table_in, prepared_table}
use Rattle.lts.specs.inner.Answers.{is_some, Decides}
use Rattle.lts.specs.inner.Check.{CountsHeld, WellFormed}
use Rattle.lts.proofs.Laws.Decides.{decided_no}
use Rattle.lts.proofs.Laws.Held.{prepared_well_formed}
use Rattle.lts.proofs.Laws.WellFormed.{well_formed-prepared}
use Rattle.table_check.specs.inner.Filled.{NamesFilled, TransitionsFilled}
use Rattle.table_check.proofs.is_prepared.Goals as goal
use Rattle.table_check.proofs.is_prepared.Goals.{then-table-ge-TABLE_LENGTH, else-table-ge-TABLE_LENGTH, then-counts_held, else-counts_held}

decided : (b : List ℕ) (P : Type 0) (r : Bool) → Decides P r → (P → is_some (prepared_table b) ≡ true) → (is_some (prepared_table b) ≡ true → P)
    → r ≡ is_some (prepared_table b)
decided b P true d f g = sym (f (d.yes refl))
decided b P false d f g = found (is_some (prepared_table b)) refl
  where
    found : (z : Bool) → is_some (prepared_table b) ≡ z → false ≡ z
    found true e = absurd (d.no refl (g e))
    found false e = refl

ill-formed : (b : List ℕ) → (WellFormed b → ⊥) → false ≡ is_some (prepared_table b)
ill-formed b n = decided b (WellFormed b) false (decided_no n) (λ w. absurd (n w)) (prepared_well_formed b)

ill_formed : {b : List ℕ} {v : Bool} → v ≡ false → (WellFormed b → ⊥) → v ≡ is_some (prepared_table b)
ill_formed e n = e ∙ ill-formed _ n

complete : (b : List ℕ) → ((i : ℕ) → get_or b i 0 < 256) → table_length ≤ length b → CountsHeld (table_in b) → NamesFilled b
    → (r : Bool) → Decides (TransitionsFilled b) r → r ≡ is_some (prepared_table b)
complete b byte long counted named r d =
    decided b _ r d
    (λ f. ap is_some (well_formed-prepared b (record {
      long = long;
      counts = counted;
      names = named.held;
      past_names = named.behind;
      transitions = f.held;
      past_transitions = f.behind;
    }) byte))
    (λ e. let w = prepared_well_formed b e in record { held = w.transitions; behind = w.past_transitions })

not_both : {A : Type 0} {v : Bool} → v ≡ true → v ≡ false → A
not_both e f = absurd (true≢false (sym e ∙ f))

too_short : {A : Type 0} {n m : ℕ} → n < m → leb m n ≡ true → A
too_short {n = n} {m = m} h e = absurd (omega (arith, leb-true m n e))

pub returns-then-names_filled : goal.returns-then-names_filled
returns-then-names_filled c =
    elim c.if-counts_held.branch [
      | then-counts_held w ↦ elim c.if-table-ge-TABLE_LENGTH.branch [
        | then-table-ge-TABLE_LENGTH u ↦ complete c.args.table.now (λ i. omega (arith, c.type_inv.table i)) u.if-table-ge-TABLE_LENGTH.true
            (u.counts_held.ensures.yes (sym u.value-is ∙ w.if-counts_held.true)) (w.names_filled.ensures.yes (sym w.value-is ∙ c.if-names_filled.true)) _ c.transitions_filled.ensures
        | else-table-ge-TABLE_LENGTH u ↦ too_short u.if-table-ge-TABLE_LENGTH.false (sym u.value-is ∙ w.if-counts_held.true)
      ]
      | else-counts_held w ↦ not_both c.if-names_filled.true (w.value-is ∙ w.if-counts_held.false)
    ]

pub returns-else-names_filled : goal.returns-else-names_filled
returns-else-names_filled c =
    ill_formed c.if-names_filled.false (λ f. elim c.if-counts_held.branch [
      | then-counts_held w ↦ w.names_filled.ensures.no (sym w.value-is ∙ c.if-names_filled.false) (record { held = f.names; behind = f.past_names })
      | else-counts_held w ↦ elim c.if-table-ge-TABLE_LENGTH.branch [
        | then-table-ge-TABLE_LENGTH u ↦ u.counts_held.ensures.no (sym u.value-is ∙ w.if-counts_held.false) f.counts
        | else-table-ge-TABLE_LENGTH u ↦ omega (arith, f.long, u.if-table-ge-TABLE_LENGTH.false)
      ]
    ])
