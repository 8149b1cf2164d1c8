-- What a node noted behind its arms makes of a walk over them: the walk of the node itself.
use mathlib.Core.Path.{◌≡◌, refl, sym, ◌∙◌, subst}
use mathlib.Core.List.{List}
use Prim.Native.Nat.{ℕ, ◌+◌, ◌≤◌, ◌<◌}
use native.Mathlib.Omega.{arith}
use lib.ListN.{length, get_or, set}
use Rattle.std.proofs.Common.{Option, None, Some}
use Rattle.actl.specs.Formulas.{class_of_or}
use Rattle.actl.specs.inner.Walk.{class_from, class_of_arm, Spelled, Traversed}
use Rattle.actl.proofs.Nodes.{size_pos}
use Rattle.actl.proofs.Laws.Table.{arm_low}
use Rattle.actl.proofs.Laws.Unique.{no-right, spelled-fits}
use Rattle.actl.proofs.Laws.Walks.{traversed_noted, traversed_T, traversed_unary, traversed_or}
use Rattle.formula_classes.specs.inner.WalkReplies.{Walks}
use Rattle.formula_classes.specs.inner.Phases.{Room, NodeNoted, HasArm, RightWalks}
use Rattle.formula_classes.specs.declared.Walked.{Walked}

pub room-kept : {K E E' C C' : List ℕ} → Room K E C → length E' ≡ length E → length C' ≡ length C → Room K E' C'
room-kept r e d = record { ends_fit = omega arith; classes_fit = omega arith; few = r.few }

-- An arm that was walked ends within the nodes, behind the place where it begins, and its class is in the table.
module _ {K E E' C C' : List ℕ} {k end arm : ℕ} (h : Traversed K E E' C C' k end arm) where
  pub walked_on : k < end
  walked_on = omega (arith, h.behind, size_pos h.formula)

  pub walked-within : end ≤ length K
  walked-within = omega (arith, h.behind, spelled-fits K k h.formula h.spelled)

  pub arm_in_table : arm < 4
  arm_in_table = omega (arith, h.as_arm_lem, arm_low h.formula)

-- T, behind which there is no arm.
pub walked_T : (K : List ℕ) {E E' C C' : List ℕ} {k class : ℕ} {r : Walked} → k < length K → get_or K k 0 ≡ 1 → class ≡ class_from 1 0
    → NodeNoted E E' C C' k (k + 1) class 3 r → Walks K E E' C C' k (Some r)
unfolding class_from
walked_T K {E} {E'} {C} {C'} {k} inside here e n =
    let found = traversed_T K E C k inside here in
    let classed = subst (λ x. Traversed K E (set E k (k + 1)) C (set C k x) k (k + 1) 3) (sym e) found in
    subst (λ (w : Walked). Walks K E E' C C' k (Some w)) (sym n.told) (traversed_noted n.ends_set n.classes_set classed)

module _ {K E E1 C C1 : List ℕ} {k kind : ℕ} {left : Walked} (node : HasArm K k kind) (arm : Traversed K E E1 C C1 (k + 1) left.end left.arm) where
  -- A node with one arm.
  pub walked_unary : {E' C' : List ℕ} {class : ℕ} {r : Walked} → (kind ≡ 3 → ⊥) → class ≡ class_from kind left.arm
      → NodeNoted E1 E' C1 C' k left.end class class r → Walks K E E' C C' k (Some r)
  walked_unary {E'} {C'} other e n =
      let found = traversed_unary K E C k node.inside arm kind node.low node.high other node.here in
      let classed = subst (λ x. Traversed K E (set E1 k left.end) C (set C1 k x) k left.end x) (sym e) found in
      subst (λ (w : Walked). Walks K E E' C C' k (Some w)) (sym n.told) (traversed_noted n.ends_set n.classes_set classed)

  -- `|`, by its right arm.
  pub walked-or : (E' C' : List ℕ) (r : Option Walked) → kind ≡ 3 → RightWalks K E1 E' C1 C' k left r → Walks K E E' C C' k r
  walked-or E' C' None three broken =
      no-right K k (node.here ∙ three) arm.formula arm.spelled (λ g s. broken g (subst (λ x. Spelled K x g) (sym arm.behind) s))
  walked-or E' C' (Some w) three h =
      let found = traversed_or K E C k node.inside arm (node.here ∙ three) h.walked in
      let classed = subst (λ x. Traversed K E (set h.ends_behind k w.end) C (set h.classes_behind k x) k w.end x) (sym h.by_both) found in
      traversed_noted h.noted.ends_set h.noted.classes_set classed

-- The right arm, and `|` noted behind it.
pub right-walked : {K E E2 E' C C2 C' : List ℕ} {k class : ℕ} {right r : Walked} (left : Walked) → Traversed K E E2 C C2 left.end right.end right.arm
    → class ≡ class_of_or (class_of_arm left.arm) (class_of_arm right.arm) → NodeNoted E2 E' C2 C' k right.end class class r
    → RightWalks K E E' C C' k left (Some r)
right-walked {K} {E} {E2} {E'} {C} {C2} {C'} {k} {class} {right} left h e n =
    subst (λ (w : Walked). RightWalks K E E' C C' k left (Some w)) (sym n.told) (record {
      ends_behind = E2;
      classes_behind = C2;
      right = right.arm;
      walked = h;
      noted = record { ends_set = n.ends_set; classes_set = n.classes_set; told = refl };
      by_both = e;
    })
