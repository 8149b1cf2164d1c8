-- What a `|` leaves pending, and what it writes.
use mathlib.Core.Path.{◌≡◌, sym, ap, ◌∙◌, subst}
use mathlib.Core.Bool.{Bool, true, false}
use mathlib.Core.List.{List, [], ◌∷◌}
use Prim.Native.Nat.{ℕ, ◌+◌}
use native.Mathlib.Omega.{arith}
use lib.ListN.{set, length-set}
use Rattle.formula_walk.specs.declared.Place.{Place}
use Rattle.formula_pieces.specs.inner.Adds.{Adds}
use Rattle.formula_walk.specs.inner.Walk.{opening, pending_after, stack_of, Stack, Walks}
use Rattle.formula_pieces.proofs.Laws.Adds.{adds_none}
use Rattle.formula_walk.proofs.Laws.Stack.{stack_one, stack_two}

module _ (arm : Bool) (pending : List ℕ) (top at : ℕ) (e : List ℕ) (s : Stack pending (top + 2)) where
  abbrev Opened : Bool → List ℕ → List ℕ → Place → Type 0
  Opened t x after r = Walks (opening t 3) (pending_after 3 t (stack_of pending top)) false top at e x pending after r

  pub opened_arm : {x : List ℕ} {to : ℕ} → arm ≡ true → Adds (40 ∷ []) at e x to → (r : Place) → (r.at ≡ to) × (r.top ≡ top + 2) × (r.arm ≡ false)
      → Opened arm x (set (set pending top 41) (top + 1) 124) r
  opened_arm {x} d a r (i, t, b) = subst (λ u. Opened u x (set (set pending top 41) (top + 1) 124) r) (sym d) (record {
    adds = subst (λ n. Adds (40 ∷ []) at e x n) (sym i) a;
    left = ap (stack_of (set (set pending top 41) (top + 1) 124)) t ∙ stack_two pending top 41 124 (omega (arith, s.long, s.within));
    next_arm = b;
    few = omega arith;
    long = length-set (set pending top 41) (top + 1) 124 ∙ length-set pending top 41;
  })

  pub opened_left : arm ≡ false → (r : Place) → (r.at ≡ at) × (r.top ≡ top + 1) × (r.arm ≡ false) → Opened arm e (set pending top 124) r
  opened_left d r (i, t, b) = subst (λ u. Opened u e (set pending top 124) r) (sym d) (record {
    adds = subst (λ n. Adds [] at e e n) (sym i) (adds_none at e);
    left = ap (stack_of (set pending top 124)) t ∙ stack_one pending top 124 (omega (arith, s.long, s.within));
    next_arm = b;
    few = omega arith;
    long = length-set pending top 124;
  })
