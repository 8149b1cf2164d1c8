-- Rows of 256 flags, one behind the other: a row by where it begins.
use Rattle.std.specs.Prelude.{◌≡◌, Bool, List, ℕ, ◌+◌, ◌*◌, ◌≤◌, ◌<◌}
use Rattle.actl.specs.Sizes.{most_nodes}
use Rattle.actl.specs.inner.Sizes.{node_positions}
use Rattle.lts.specs.Sizes.{most_states}
use Rattle.until_search.specs.inner.Flags.{flag_at}

abbrev pub row_at : List Bool → ℕ → ℕ → Bool
row_at flags at s = flag_at flags (at + s)

abbrev pub RowIn : ℕ → Type 0
RowIn at = at + most_states ≤ node_positions

-- Where the row of node k begins, where there is a place for it.
pub record RowOf (k at : ℕ) : Type 0 where
  pub within : RowIn at
  pub stands : k < most_nodes → at ≡ k * most_states
