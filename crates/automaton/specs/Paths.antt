-- Finite paths, as rows of steps.
use Rattle.std.specs.Prelude.{◌≡◌, List, [], ◌∷◌, ℕ}
use Rattle.lts.specs.Steps.{Step, Table, IsStep}

-- The steps form a path from s.
abbrev pub IsPath : Table → ℕ → List Step → Type 0
IsPath t s [] = Unit {0}
IsPath t s (st ∷ p) = (st.from ≡ s) × IsStep t st × IsPath t st.to p

-- The word of a path.
abbrev pub word_of : List Step → List ℕ
word_of [] = []
word_of (st ∷ p) = st.label ∷ word_of p
