-- What the program keeps of a formula's file, and room for the text that it writes.
use Rattle.std.specs.Prelude.{ℕ, suc, ◌+◌, ◌*◌}
use Rattle.actl.specs.Sizes.{longest_text}
use Rattle.explanations.specs.Sizes.{edges_lent, rows_lent}
use Rattle.automaton.specs.Bytes.{row_length, edge_length}

-- Of the formula's file: one byte more than a formula may have.
abbrev pub kept_length : ℕ
kept_length = suc longest_text

-- Lines of four and of three numbers, and room for the first line and one line more.
abbrev pub text_length : ℕ
text_length = rows_lent * 25 + edges_lent * 19 + 162

abbrev pub rows_length : ℕ
rows_length = rows_lent * row_length

abbrev pub edges_length : ℕ
edges_length = edges_lent * edge_length
