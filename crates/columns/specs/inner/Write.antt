-- What `write_column` leaves: the column of a number at a place of a buffer.
use Rattle.std.specs.Prelude.{◌≡◌, List, ◌++◌, ℕ, ◌+◌, ◌≤◌, length, take, drop}
use Rattle.columns.specs.Columns.{column}
use Rattle.columns.specs.declared.write.Figures.{Figures}

pub record Spread (n : ℕ) (r : Figures) : Type 0 where
  pub figures : drop r.from r.bytes ≡ column n
  pub within : r.from ≤ 14
  pub size : length r.bytes ≡ 20

-- A buffer with a list of bytes written at a place: what stood before and behind stays.
abbrev pub pasted : List ℕ → ℕ → List ℕ → List ℕ
pasted buffer at bytes = take at buffer ++ (bytes ++ drop (at + length bytes) buffer)
