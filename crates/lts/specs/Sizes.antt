-- 01's limits of a table, and the lengths and offsets of docs/FORMATS.md that follow from them. src/sizes.rt has the same numbers for code.
use Rattle.std.specs.Prelude.{ℕ, ◌+◌, ◌*◌}

-- 01: "states (1 to 256), labels (0 to 40), transitions (0 to 1,024)"
abbrev pub most_states : ℕ
most_states = 256

abbrev pub most_labels : ℕ
most_labels = 40

abbrev pub most_transitions : ℕ
most_transitions = 1024

abbrev pub name_slot_length : ℕ
name_slot_length = 16

abbrev pub transition_length : ℕ
transition_length = 3

abbrev pub table_length : ℕ
table_length = 6 + most_labels * name_slot_length + most_transitions * transition_length

-- The longest text of a table: its lines with their LFs.
abbrev pub longest_table_text : ℕ
longest_table_text = 25 + (most_labels * 21 + most_transitions * 19)
