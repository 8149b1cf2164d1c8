-- The text of a deterministic automaton. 02: "Its listing holds states, final marks and edges, no verdict."
-- States and edges in the first line; then for each state its number and mark; then for each edge state, label, target.
use Rattle.std.specs.Prelude.{Bool, List, [], ◌∷◌, ◌++◌, ℕ, suc, length}
use Rattle.columns.specs.Lines.{numbers_line}
use Rattle.lts.specs.Lists.{bind}
use Rattle.automaton.specs.Bytes.{bit_of}
use Rattle.deterministic.specs.Automata.{Automaton, count}
use Rattle.explanations.specs.Printed.{edge_line}

abbrev pub state_lines : ℕ → List Bool → List ℕ
state_lines i [] = []
state_lines i (b ∷ l) = numbers_line (i ∷ bit_of b ∷ []) ++ state_lines (suc i) l

unfoldable pub automaton_text : Automaton → List ℕ
automaton_text d = numbers_line (count d ∷ length d.edges ∷ []) ++ (state_lines 0 d.final ++ bind edge_line d.edges)
