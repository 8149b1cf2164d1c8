-- Worked examples: what `print_smallest` writes, from the two texts.
use mathlib.Core.Path.{◌≡◌, refl}
use mathlib.Core.List.{[], ◌∷◌}
use Rattle.columns.specs.Ascii.{ascii}
use Rattle.columns.specs.Columns.{column, digits_within}
use Rattle.lts.specs.Names.{find_from}
use Rattle.lts.specs.Steps.{silent}
use Rattle.lts.specs.Text.{ended}
use Rattle.lts.specs.Reading.{read_table_with, read_labels_with, read_transitions}
use Rattle.lts.specs.inner.Steps.{steps_from}
use Rattle.lts.proofs.Examples.{lines, M_lines}
use Rattle.actl.specs.Actions.{in_set, mask_of, meets, passes}
use Rattle.actl.specs.Formulas.{class_of, highest_without_class}
use Rattle.actl.specs.inner.Reading.{read_formula}
use Rattle.satisfaction.specs.inner.Holds.{holds, within}
use Rattle.automaton.specs.inner.Search.{final_of, final, leads_of, leads, targets, can_finish, moves_to_among, moves_on_among, moves_from_among}
use Rattle.automaton.specs.inner.Search.{number_of as numberOfRow, visit as visitRow, visits as visitRows}
use Rattle.automaton.specs.inner.Search.{expand_among, search_among, positions_among, moves_upto_among, listing}
use Rattle.deterministic.specs.inner.Blocks.{signature, refine, refined, blocks, numbered}
use Rattle.deterministic.specs.inner.Lists.{same_lists}
use Rattle.deterministic.specs.inner.Search.{number_of, moves_from, visit, visits, expand, search, found, moves_upto, automaton_of}
use Rattle.deterministic.specs.inner.Subsets.{set_of, start_set, step_set, final_set, nonempty, sets, smallest}
use Rattle.smallest_text.specs.Text.{automaton_text}
use Rattle.smallest_lines.specs.SmallestText.{lent_smallest, smallest_text}

-- Of `EU[*;ack] T` over table M, whose listing has two edges by one label from a row.
smallest-of_M : smallest_text M_lines (ended (ascii "EU[*;ack] T"))
    ≡ lines (
    "     3     3"
    ∷ "     0     0"
    ∷ "     1     0"
    ∷ "     2     1"
    ∷ "     0     1     1"
    ∷ "     1     2     2"
    ∷ "     2     1     1"
    ∷ [])
unfolding smallest_text lent_smallest automaton_text smallest numbered sets found search expand visits visit moves_from moves_upto number_of automaton_of same_lists set_of start_set step_set
    final_set nonempty blocks refined refine signature listing positions_among search_among expand_among visitRows visitRow moves_upto_among moves_from_among moves_on_among moves_to_among
    numberOfRow can_finish targets leads leads_of final final_of holds within steps_from meets passes in_set class_of silent read_table_with read_labels_with read_transitions column
    digits_within read_formula find_from mask_of highest_without_class
smallest-of_M = refl

-- No word: one state, not final.
none-of_M : smallest_text M_lines (ascii "EX[ack] T") ≡ lines ("     1     0" ∷ "     0     0" ∷ [])
unfolding smallest_text lent_smallest automaton_text smallest numbered sets found search expand visits visit moves_from moves_upto number_of automaton_of same_lists set_of start_set step_set
    final_set nonempty blocks refined refine signature listing positions_among search_among expand_among visitRows visitRow moves_upto_among moves_from_among moves_on_among moves_to_among
    numberOfRow can_finish targets leads leads_of final final_of holds within steps_from meets passes in_set class_of silent read_table_with read_labels_with read_transitions column
    digits_within read_formula find_from mask_of highest_without_class
none-of_M = refl

-- A refusal prints one line.
refusal-line : smallest_text [] [] ≡ lines ("     1     1" ∷ [])
unfolding smallest_text lent_smallest read_table_with column digits_within
refusal-line = refl
