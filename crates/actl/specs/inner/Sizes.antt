-- Every node at every state, for arrays.
use Rattle.std.specs.Prelude.{ℕ, ◌*◌}
use Rattle.lts.specs.Sizes.{most_states}
use Rattle.actl.specs.Sizes.{most_nodes}

-- Every node at every state.
abbrev pub node_positions : ℕ
node_positions = most_nodes * most_states
