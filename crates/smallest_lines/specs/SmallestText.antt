-- The text that `print_smallest` writes: that of the smallest deterministic automaton, or a refusal.
use Rattle.std.specs.Prelude.{List, ℕ, ◌*◌, replicate}
use Rattle.lts.specs.Reply.{Reply, accepted, refusal}
use Rattle.lts.specs.Reading.{read_table}
use Rattle.actl.specs.inner.Reading.{read_formula}
use Rattle.automaton.specs.Bytes.{row_length, edge_length}
use Rattle.explanations.specs.Sizes.{rows_lent, edges_lent}
use Rattle.explanations.specs.Explanation.{and_then}
use Rattle.explanations.specs.Printed.{refusal_line, without_end}
use Rattle.deterministic.specs.SmallestAsked.{Beside, beside_in}
use Rattle.smallest_text.specs.Text.{automaton_text}

-- The refusals of the entries in turn: reading the table, reading the formula, asking for the automaton beside the rows and edges, in the places that
-- `explain` lends.
unfoldable pub lent_smallest : List ℕ → List ℕ → Reply Beside
lent_smallest table_text text =
    and_then (read_table table_text) (λ t.
    and_then (read_formula t.names text) (λ F. beside_in (replicate (rows_lent * row_length) 0) (replicate (edges_lent * edge_length) 0) t F))

abbrev pub text_of : Reply Beside → List ℕ
text_of (accepted b) = automaton_text b.smallest
text_of (refusal number figure) = refusal_line number figure

-- What `print_smallest` writes for the contents of its two files.
unfoldable pub smallest_text : List ℕ → List ℕ → List ℕ
smallest_text tableFile formulaFile = text_of (lent_smallest tableFile (without_end formulaFile))
