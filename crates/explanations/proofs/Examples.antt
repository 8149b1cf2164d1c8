-- Worked examples: what `explain` writes, from the two texts.
use mathlib.Core.Path.{◌≡◌, refl}
use mathlib.Core.List.{List, [], ◌∷◌, ◌++◌}
use Prim.Native.Nat.{ℕ, ◌≤◌}
use native.Mathlib.Omega.{arith}
use Rattle.columns.specs.Ascii.{ascii}
use Rattle.columns.specs.Columns.{column, digits_within}
use Rattle.lts.specs.Sizes.{table_length}
use Rattle.lts.specs.Names.{find_from}
use Rattle.lts.specs.Steps.{silent}
use Rattle.lts.specs.inner.Steps.{steps_from}
use Rattle.lts.specs.Text.{ended}
use Rattle.lts.specs.Reading.{read_table, read_table_with, read_labels_with, read_transitions}
use Rattle.lts.specs.inner.Reading.{read_labels}
use Rattle.lts.proofs.Examples.{lines, M_lines}
use Rattle.actl.specs.Sizes.{formula_length}
use Rattle.actl.specs.Actions.{in_set, mask_of, meets, passes}
use Rattle.actl.specs.Formulas.{class_of, highest_without_class}
use Rattle.actl.specs.inner.Reading.{read_formula}
use Rattle.satisfaction.specs.inner.Holds.{holds, within}
use Rattle.automaton.specs.Bytes.{row_length, edge_length}
use Rattle.automaton.specs.inner.Search.{final_of, final, leads_of, leads, targets, can_finish, number_of, moves_to_among, moves_on_among, moves_from_among, visit, visits}
use Rattle.automaton.specs.inner.Search.{expand_among, search_among, positions_among, moves_upto_among, listing}
use Rattle.explanations.specs.Printed.{printed, explain_text}

-- 01's listing for `EU[*;ack] T` over table M, number for number.
listing-of_M : explain_text M_lines (ended (ascii "EU[*;ack] T"))
    ≡ lines (
    "     1     1     3     3"
    ∷ "     0     0     0     0"
    ∷ "     1     0     1     0"
    ∷ "     2     1     0     1"
    ∷ "     0     1     1"
    ∷ "     1     2     0"
    ∷ "     1     2     2"
    ∷ [])
unfolding explain_text printed listing positions_among search_among expand_among visits visit moves_upto_among moves_from_among moves_on_among moves_to_among number_of can_finish
    targets leads leads_of final final_of holds within steps_from meets passes in_set class_of silent read_table_with read_labels_with read_transitions column digits_within
    read_formula find_from mask_of highest_without_class
listing-of_M = refl

-- A refusal prints one line.
refusal-line : explain_text [] [] ≡ lines ("     1     1" ∷ [])
unfolding explain_text printed read_table_with column digits_within
refusal-line = refl

-- 01: "Each length in docs/ is one number, the same for every input and at most 16,777,216 bytes; a row or edge place takes at most 64 bytes."
lengths_capped : (table_length ≤ 16777216) × (formula_length ≤ 16777216) × (row_length ≤ 64) × (edge_length ≤ 64)
lengths_capped = (omega arith, omega arith, omega arith, omega arith)
