-- What the walk over a formula's nodes answers.
use Rattle.std.specs.Prelude.{◌≡◌, List, ℕ, ◌+◌, ◌<◌, get_or, Option, None, Some}
use Rattle.std.proofs.Math.Option as maybe
use Rattle.std.proofs.Math.Option.{none, some}
use Rattle.actl.specs.Formulas.{Formula, tru, size, nodes, class_of, highest_without_class}
use Rattle.actl.specs.inner.Prepared.{prepared_formula}
use Rattle.formula_classes.specs.declared.Walked.{Walked}
use Rattle.formula_classes.specs.declared.Shape.{Shape}
use Rattle.actl.specs.inner.Walk.{kinds_of, Spelled, Traversed}

abbrev pub Walks : List ℕ → List ℕ → List ℕ → List ℕ → List ℕ → ℕ → Option Walked → Type 0
Walks kinds ends ends_after classes classes_after k None = (f : Formula) → Spelled kinds k f → ⊥
Walks kinds ends ends_after classes classes_after k (Some w) = Traversed kinds ends ends_after classes classes_after k w.end w.arm

-- 01: "a node without class": "the highest-numbered one"
abbrev pub classless_node : Option ℕ → maybe.Option ℕ
classless_node None = none
classless_node (Some k) = some k

abbrev pub IsHighest : Option ℕ → List ℕ → Type 0
IsHighest r kinds = (F : Formula) → kinds_of F ≡ kinds → classless_node r ≡ highest_without_class F

-- The ends and classes of a formula's nodes.
pub record ShapeOf (s : Shape) (F : Formula) : Type 0 where
  pub counted : s.count ≡ size F
  pub ends : (k : ℕ) → k < size F → get_or s.ends k 0 ≡ k + size (get_or (nodes F) k tru)
  pub classes : (k : ℕ) → k < size F → get_or s.classes k 0 ≡ class_of (get_or (nodes F) k tru)

abbrev pub IsShape : Shape → List ℕ → Type 0
IsShape s b = (n : ℕ) (F : Formula) → prepared_formula n b ≡ some F → ShapeOf s F
