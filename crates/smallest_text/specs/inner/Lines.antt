-- The executable twin of `automaton_text` (../Text.antt), from the bytes: `text-held` (proofs/Laws/Held.antt) makes them equal.
use Rattle.std.specs.Prelude.{List, [], ◌∷◌, ◌++◌, ℕ, ◌+◌, ◌*◌, get_or}
use Rattle.columns.specs.Lines.{numbers_line}
use Rattle.lts.specs.inner.Lists.{up_from}
use Rattle.lts.specs.Lists.{bind}

-- The number in two bytes, the low one first; the numbers in three.
abbrev pub pair_at : List ℕ → ℕ → ℕ
pair_at bytes k = get_or bytes k 0 + get_or bytes (k + 1) 0 * 256

abbrev pub three_at : List ℕ → ℕ → List ℕ
three_at bytes k = get_or bytes k 0 ∷ get_or bytes (k + 1) 0 ∷ get_or bytes (k + 2) 0 ∷ []

-- The line of state i, and that of edge j, if the first edge stands at a place.
abbrev pub state_text : List ℕ → ℕ → List ℕ
state_text bytes i = numbers_line (i ∷ get_or bytes (4 + i) 0 ∷ [])

abbrev pub step_text : List ℕ → ℕ → ℕ → List ℕ
step_text bytes first j = numbers_line (three_at bytes (first + j * 3))

abbrev pub lines_text : (ℕ → List ℕ) → ℕ → List ℕ
lines_text line n = bind line (up_from 0 n)

-- The text, if so many states and edges were read.
abbrev pub smallest_text : List ℕ → ℕ → ℕ → List ℕ
smallest_text bytes states edges = numbers_line (states ∷ edges ∷ []) ++ (lines_text (state_text bytes) states ++ lines_text (step_text bytes (4 + states)) edges)
