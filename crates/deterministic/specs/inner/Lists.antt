-- Lists: without repetition; whether two are equal, by a test for members.
use Rattle.std.specs.Prelude.{Bool, true, false, ◌&&◌, List, [], ◌∷◌}
pub use Rattle.automaton.specs.inner.Positions.{Distinct}

unfoldable pub same_lists : {A : Type 0} → (A → A → Bool) → List A → List A → Bool
same_lists same [] [] = true
same_lists same [] (y ∷ m) = false
same_lists same (x ∷ l) [] = false
same_lists same (x ∷ l) (y ∷ m) = same x y && same_lists same l m
