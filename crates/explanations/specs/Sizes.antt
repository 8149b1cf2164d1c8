-- What the program lends. src/sizes.rt has the same numbers for code.
use Rattle.std.specs.Prelude.{ℕ}

-- 01: "The program lends places for 1,024 rows and 4,096 edges."
abbrev pub rows_lent : ℕ
rows_lent = 1024

abbrev pub edges_lent : ℕ
edges_lent = 4096
