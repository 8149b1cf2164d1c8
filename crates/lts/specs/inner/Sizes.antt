-- Lengths and offsets within a prepared table, and sizes that code needs beside those of ../Sizes.antt. src/sizes.rt has the same numbers for code.
use Rattle.std.specs.Prelude.{ℕ, suc, ◌+◌, ◌*◌}
use Rattle.lts.specs.Sizes.{most_labels, most_states, most_transitions, name_slot_length, transition_length, longest_table_text}

-- A prepared table: counts and start, name slots, transition slots.
abbrev pub head_length : ℕ
head_length = 6

abbrev pub names_length : ℕ
names_length = most_labels * name_slot_length

abbrev pub transitions_at : ℕ
transitions_at = head_length + names_length

abbrev pub transitions_length : ℕ
transitions_length = most_transitions * transition_length

-- All steps, idle steps included; and where those of each state begin, and the last ones end.
abbrev pub most_steps : ℕ
most_steps = most_transitions + most_states

abbrev pub firsts_length : ℕ
firsts_length = suc most_states

-- One byte more than the longest text of a table gets the same answer as any longer text.
abbrev pub enough_table_text : ℕ
enough_table_text = suc longest_table_text

abbrev pub longest_name : ℕ
longest_name = 13
