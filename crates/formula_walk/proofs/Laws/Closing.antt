-- What is pending is written from the top, up to a `|`.
use mathlib.Core.Path.{◌≡◌, refl, sym, ap, ◌∙◌, subst}
use mathlib.Core.Bool.{Bool, true, false, cond}
use mathlib.Core.List.{List, [], ◌∷◌, ◌++◌, append-nil, append_assoc}
use Prim.Native.Nat.{ℕ, zero, suc, ◌+◌, ◌-◌, ◌≤◌, ◌<◌}
use native.Mathlib.Omega.{arith}
use lib.Dec.{eqb}
use lib.ListN.{length, get_or, length-append}
use borrow.Author.Tests.{eq-eqb, ne_eqb}
use Rattle.formula_walk.specs.declared.Place.{Place}
use Rattle.formula_pieces.specs.inner.Adds.{Adds}
use Rattle.formula_walk.specs.inner.Walk.{drained, rested, stack_of, Walks}
use Rattle.formula_pieces.proofs.Laws.Adds.{adds_none, adds_then, adds_same}

-- A place that is an arm's.
pub walks_arm : {l q : List ℕ} {top at end left : ℕ} {e x p pending : List ℕ} (r : Place) → (r.at ≡ end) × (r.top ≡ left) × (r.arm ≡ true)
    → Adds l at e x end → stack_of pending left ≡ q → left ≤ top + 2 → length pending ≡ length p → Walks l q true top at e x p pending r
walks_arm {l} {at = at} {e = e} {x = x} {pending = pending} r (a, t, b) adds rest few long = record {
  adds = subst (λ n. Adds l at e x n) (sym a) adds;
  left = ap (stack_of pending) t ∙ rest;
  next_arm = b;
  few = omega arith;
  long = long;
}

module _ (pending : List ℕ) (top at : ℕ) (e : List ℕ) where
  -- Down to `left` it is written.
  pub record Closing (x : List ℕ) (end left : ℕ) : Type 0 where
    pub sofar : List ℕ
    pub adds : Adds sofar at e x end
    pub text : drained (stack_of pending top) ≡ sofar ++ drained (stack_of pending left)
    pub rest : rested (stack_of pending top) ≡ rested (stack_of pending left)
    pub count : length sofar + left ≡ top

  pub closing-start : Closing e at top
  closing-start = record { sofar = []; adds = adds_none at e; text = refl; rest = refl; count = omega arith }

  -- One byte down.
  one_down : (left : ℕ) → 0 < left → stack_of pending left ≡ get_or pending (left - 1) 0 ∷ stack_of pending (left - 1)
  one_down zero h = absurd (omega arith)
  one_down (suc n) h = let d : n ≡ suc n - 1 = omega arith in ap (λ k. get_or pending k 0 ∷ stack_of pending k) d

  module _ {x y : List ℕ} {end to left : ℕ} (c : Closing x end left) (some : 0 < left) (a : Adds (get_or pending (left - 1) 0 ∷ []) end x y to) where
    abbrev b : ℕ
    b = get_or pending (left - 1) 0

    abbrev below : List ℕ
    below = stack_of pending (left - 1)

    written : Adds (c.sofar ++ (b ∷ [])) at e y to
    written = adds_then c.adds a

    drained_down : (t : Bool) → eqb b 124 ≡ t → drained (stack_of pending top) ≡ (c.sofar ++ (b ∷ [])) ++ cond t [] (drained below)
    drained_down t d =
        c.text ∙ (ap (λ s. c.sofar ++ drained s) (one_down left some)
        ∙ (ap (λ u. c.sofar ++ (b ∷ cond u [] (drained below))) d ∙ sym (append_assoc c.sofar (b ∷ []) (cond t [] (drained below)))))

    rested_down : (t : Bool) → eqb b 124 ≡ t → rested (stack_of pending top) ≡ cond t below (rested below)
    rested_down t d = c.rest ∙ (ap rested (one_down left some) ∙ ap (λ u. cond u below (rested below)) d)

    pub closing-more : (b ≡ 124 → ⊥) → Closing y to (left - 1)
    closing-more d = record {
      sofar = c.sofar ++ (b ∷ []);
      adds = written;
      text = drained_down false (ne_eqb b 124 d);
      rest = rested_down false (ne_eqb b 124 d);
      count = omega (arith, c.count, length-append c.sofar (b ∷ []));
    }

    pub closing_bar : b ≡ 124 → (r : Place) → (r.at ≡ to) × (r.top ≡ left - 1) × (r.arm ≡ true)
        → Walks (drained (stack_of pending top)) (rested (stack_of pending top)) true top at e y pending pending r
    closing_bar d r is =
        walks_arm r is (adds_same (drained_down true (eq-eqb b 124 d) ∙ append-nil (c.sofar ++ (b ∷ []))) written)
        (sym (rested_down true (eq-eqb b 124 d))) (omega (arith, c.count)) refl

  pub closing_end : {x : List ℕ} {end left : ℕ} → Closing x end left → left ≤ 0 → (r : Place) → (r.at ≡ end) × (r.top ≡ left) × (r.arm ≡ true)
      → Walks (drained (stack_of pending top)) (rested (stack_of pending top)) true top at e x pending pending r
  closing_end {left = zero} c h r is = walks_arm r is (adds_same (c.text ∙ append-nil c.sofar) c.adds) (sym c.rest) (omega arith) refl
  closing_end {left = suc n} c h r is = absurd (omega arith)
