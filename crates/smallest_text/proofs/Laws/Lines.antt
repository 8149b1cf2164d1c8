-- How long the lines are.
use mathlib.Core.Path.{◌≡◌}
use mathlib.Core.List.{List, [], ◌∷◌}
use Prim.Native.Nat.{ℕ, ◌+◌, ◌*◌, ◌<◌}
use native.Mathlib.Omega.{arith}
use lib.ListN.{length, get_or, length-append}
use Rattle.columns.specs.Columns.{column}
use Rattle.columns.specs.Lines.{numbers_line}
use Rattle.columns.proofs.Laws.Columns.{column-length}
use Rattle.explanations.proofs.Printing.{three_wide}
use Rattle.smallest_text.specs.inner.Lines.{state_text, step_text}

-- Lists of bytes.
abbrev pub AreBytes : List ℕ → Type 0
AreBytes bytes = (k : ℕ) → get_or bytes k 0 < 256

pub two-wide : (a b : ℕ) → a < 1000000 → b < 1000000 → length (numbers_line (a ∷ b ∷ [])) ≡ 13
two-wide a b h i =
    omega (arith, column-length a h, column-length b i, length-append (column a) (numbers_line (b ∷ [])), length-append (column b) (numbers_line []))

pub state-wide : (bytes : List ℕ) (i : ℕ) → AreBytes bytes → i < 65536 → length (state_text bytes i) ≡ 13
state-wide bytes i b h = two-wide _ _ (omega arith) (omega (arith, b (4 + i)))

pub step-wide : (bytes : List ℕ) (first j : ℕ) → AreBytes bytes → length (step_text bytes first j) ≡ 19
step-wide bytes first j b =
    let k = first + j * 3 in
    three_wide _ _ _ (omega (arith, b k)) (omega (arith, b (k + 1))) (omega (arith, b (k + 2)))
