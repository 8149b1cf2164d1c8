-- 01, of listings: "All in 6 columns; a number of more digits takes as many columns as it has."
use Rattle.std.specs.Prelude.{List, [], ◌∷◌, ◌++◌, ℕ}
use Rattle.columns.specs.Columns.{column}

-- A line of numbers, with its LF.
abbrev pub numbers_line : List ℕ → List ℕ
numbers_line [] = 10 ∷ []
numbers_line (n ∷ l) = column n ++ numbers_line l
