-- Bytes in which a table stands.
use Rattle.std.specs.Prelude.{List, ℕ, ◌≤◌, length}
use Rattle.lts.specs.Sizes.{table_length}
use Rattle.lts.specs.inner.Range.{InRange}
use Rattle.lts.specs.inner.Prepared.{table_in}

-- Bytes in which a table stands that is in range: those that a reading leaves, whatever stands in slots that are not used.
pub record HoldsTable (b : List ℕ) : Type 0 where
  pub long : table_length ≤ length b
  pub in_range : InRange (table_in b)
