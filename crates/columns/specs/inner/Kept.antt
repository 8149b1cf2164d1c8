-- Columns that are kept one behind the other, from that of 0 on.
use Rattle.std.specs.Prelude.{◌≡◌, List, ℕ, ◌+◌, ◌*◌, ◌≤◌, ◌<◌, length, take, drop}
use Rattle.columns.specs.Columns.{column}

-- The column of n stands in its place; those of all numbers below a count do.
pub record ColumnKept (n : ℕ) (kept : List ℕ) : Type 0 where
  pub there : n * 6 + 6 ≤ length kept
  pub is : take 6 (drop (n * 6) kept) ≡ column n

abbrev pub ColumnsKept : ℕ → List ℕ → Type 0
ColumnsKept count kept = (n : ℕ) → n < count → ColumnKept n kept
