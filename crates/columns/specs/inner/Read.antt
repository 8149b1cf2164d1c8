-- What `read_column` answers: the number whose column stands at a place of a text.
use Rattle.std.specs.Prelude.{Bool, true, false, cond, List, Option, Some, None, ℕ, ◌+◌, ◌%◌, take, drop, eqb}
use Rattle.columns.specs.Bytes.{same_bytes}
use Rattle.columns.specs.Columns.{column, value_at}

abbrev pub column_if : Bool → ℕ → Option ℕ
column_if true v = Some v
column_if false v = None

unfoldable pub column_at : List ℕ → ℕ → Option ℕ
column_at s at = column_if (same_bytes (take 6 (drop at s)) (column (value_at at s))) (value_at at s)

-- The byte before the last one of a column, if n is what the digits so far leave.
abbrev pub lead : ℕ → ℕ
lead n = cond (eqb n 0) 32 (48 + n % 10)
