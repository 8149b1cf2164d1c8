-- How much is read of the list, and the room for the lines.
use Rattle.std.specs.Prelude.{ℕ, ◌+◌, ◌*◌}
use Rattle.lts.specs.Sizes.{most_states}
use Rattle.starts.specs.inner.Search.{enough_starts}

-- What is read of the list: 257 numbers get the same answer as more.
abbrev pub list_length : ℕ
list_length = enough_starts * 6

-- Lines of two numbers, and room for one of four.
abbrev pub lines_length : ℕ
lines_length = 13 + most_states * 13 + 81
