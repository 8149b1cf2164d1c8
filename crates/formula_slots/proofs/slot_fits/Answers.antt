-- `slot_fits` meets its contract: one of the nine kinds, and each mask by itself.
use mathlib.Core.Path.{◌≡◌, sym, ap, ◌∙◌}
use mathlib.Core.Bool.{false, ◌&&◌, ◌||◌}
use Prim.Native.Nat.{ℕ, ◌<◌, ◌≤◌}
use borrow.Author.Rules.{rules}
use native.Mathlib.Decide.{dec_lt}
use native.Mathlib.Omega.{arith}
use lib.Dec.{eqb}
use Rattle.actl.specs.inner.Shaped.{first_used, second_used}
use Rattle.actl.specs.Prepared.{Slot, mask_within}
use Rattle.actl.specs.inner.Prepared.{slot_at}
use Rattle.actl.specs.inner.Check.{slot_fits}
use Rattle.actl.proofs.Laws.Checked.{kind-low, kind-high, masks_fit}
use Rattle.formula_slots.proofs.slot_fits.Goals as goal

pub returns-then-not-contains : goal.returns-then-not-contains
returns-then-not-contains c = outside (dec_lt 9 kind)
  where
    kind : ℕ
    kind = (slot_at c.args.formula.now c.args.k).kind

    inside : 1 ≤ kind → kind ≤ 9 → ⊥
    inside = search rules

    none : Dec (0 < kind) → (9 < kind → ⊥) → kind ≡ 0
    none (yes l) h = absurd (inside (omega arith) (omega arith))
    none (no l) h = omega arith

    outside : Dec (9 < kind) → false ≡ slot_fits c.args.labels (slot_at c.args.formula.now c.args.k)
    outside (yes h) = sym (kind-high c.args.labels (slot_at c.args.formula.now c.args.k) h)
    outside (no h) = sym (kind-low c.args.labels (slot_at c.args.formula.now c.args.k) (none (dec_lt 0 kind) h))

pub returns-then-first : goal.returns-then-first
returns-then-first c =
    let n : ℕ = c.args.labels in
    let s : Slot = slot_at c.args.formula.now c.args.k in
    let both : (c.mask_fits-first.result && c.mask_fits-second.result) ≡ slot_fits n s = let m = c.first_mask.ensures in
    let o = c.second_mask.ensures in
    let first : c.mask_fits-first.result ≡ ((first_used s.kind || eqb s.first 0) && mask_within n s.first) =
    c.mask_fits-first.ensures ∙ (λ i. (c.masks_of-masks.ensures.result_value i || eqb (m i) 0) && mask_within n (m i)) in
    let second : c.mask_fits-second.result ≡ ((second_used s.kind || eqb s.second 0) && mask_within n s.second) =
    c.mask_fits-second.ensures ∙ (λ i. (c.masks_of-masks.ensures.result_value_2 i || eqb (o i) 0) && mask_within n (o i)) in
    (λ i. first i && second i) ∙ masks_fit n s (let low : 1 ≤ s.kind = search rules in λ z. omega (arith, low)) (search rules) in
    sym (ap (λ t. t && c.mask_fits-second.result) c.if-first.true) ∙ both

pub returns-else-first : goal.returns-else-first
returns-else-first c =
    let n : ℕ = c.args.labels in
    let s : Slot = slot_at c.args.formula.now c.args.k in
    let both : (c.mask_fits-first.result && c.mask_fits-second.result) ≡ slot_fits n s = let m = c.first_mask.ensures in
    let o = c.second_mask.ensures in
    let first : c.mask_fits-first.result ≡ ((first_used s.kind || eqb s.first 0) && mask_within n s.first) =
    c.mask_fits-first.ensures ∙ (λ i. (c.masks_of-masks.ensures.result_value i || eqb (m i) 0) && mask_within n (m i)) in
    let second : c.mask_fits-second.result ≡ ((second_used s.kind || eqb s.second 0) && mask_within n s.second) =
    c.mask_fits-second.ensures ∙ (λ i. (c.masks_of-masks.ensures.result_value_2 i || eqb (o i) 0) && mask_within n (o i)) in
    (λ i. first i && second i) ∙ masks_fit n s (let low : 1 ≤ s.kind = search rules in λ z. omega (arith, low)) (search rules) in
    c.if-first.false ∙ (sym (ap (λ t. t && c.mask_fits-second.result) c.if-first.false) ∙ both)
