-- The length of a frontier: a mask of places for each state, and four masks of states behind them. src/sizes.rt has the same numbers for code.
use Rattle.std.specs.Prelude.{ℕ, ◌+◌}
use Rattle.lts.specs.Sizes.{most_states}

abbrev pub frontier_length : ℕ
frontier_length = most_states + 4
