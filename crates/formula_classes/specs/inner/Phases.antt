-- What the phases of the walk hand each other: a node that is noted, a node with an arm, the right arm of `|`.
use Rattle.std.specs.Prelude.{◌≡◌, List, ℕ, ◌≤◌, ◌<◌, length, get_or, set, Option, None, Some}
use Rattle.actl.specs.Formulas.{Formula, class_of_or}
use Rattle.actl.specs.inner.Walk.{class_of_arm, Spelled, Traversed}
use Rattle.formula_classes.specs.declared.Walked.{Walked}

-- The lent places hold every node, and a byte holds every number of a node.
pub record Room (kinds ends classes : List ℕ) : Type 0 where
  pub ends_fit : length kinds ≤ length ends
  pub classes_fit : length kinds ≤ length classes
  pub few : length kinds < 256

-- Node k noted: where its arms end, and its class; what it is as an arm is told.
pub record NodeNoted (ends ends_after classes classes_after : List ℕ) (k end class arm : ℕ) (r : Walked) : Type 0 where
  pub ends_set : ends_after ≡ set ends k end
  pub classes_set : classes_after ≡ set classes k class
  pub told : r ≡ record { end = end; arm = arm }

-- Node k is one of the kinds that have an arm.
pub record HasArm (kinds : List ℕ) (k kind : ℕ) : Type 0 where
  pub inside : k < length kinds
  pub here : get_or kinds k 0 ≡ kind
  pub low : 2 ≤ kind
  pub high : kind ≤ 9

-- The right arm of node k, from where the left one ends on, and then node k noted, by both arms.
pub record RightTraversed (kinds ends ends_after classes classes_after : List ℕ) (k : ℕ) (left w : Walked) : Type 0 where
  pub ends_behind : List ℕ
  pub classes_behind : List ℕ
  pub right : ℕ
  pub walked : Traversed kinds ends ends_behind classes classes_behind left.end w.end right
  pub noted : NodeNoted ends_behind ends_after classes_behind classes_after k w.end w.arm w.arm w
  pub by_both : w.arm ≡ class_of_or (class_of_arm left.arm) (class_of_arm right)

abbrev pub RightWalks : List ℕ → List ℕ → List ℕ → List ℕ → List ℕ → ℕ → Walked → Option Walked → Type 0
RightWalks kinds ends ends_after classes classes_after k left None = (f : Formula) → Spelled kinds left.end f → ⊥
RightWalks kinds ends ends_after classes classes_after k left (Some w) = RightTraversed kinds ends ends_after classes classes_after k left w
