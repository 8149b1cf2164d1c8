-- 01's limits of a formula, and the lengths of docs/FORMATS.md that follow from them. src/sizes.rt has the same numbers for code.
use Rattle.std.specs.Prelude.{ℕ, suc, ◌*◌}

-- 01: "At most 512 bytes"; "there are at most 40" nodes
abbrev pub longest_text : ℕ
longest_text = 512

abbrev pub most_nodes : ℕ
most_nodes = 40

-- A prepared formula: the count of nodes, node slots.
abbrev pub node_slot_length : ℕ
node_slot_length = 17

abbrev pub formula_length : ℕ
formula_length = suc (most_nodes * node_slot_length)
