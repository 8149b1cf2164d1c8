-- Worked examples: what `print_verdicts` writes for table M and a list.
use mathlib.Core.Path.{◌≡◌, refl}
use mathlib.Core.List.{[], ◌∷◌}
use Rattle.columns.specs.Ascii.{ascii}
use Rattle.columns.specs.Columns.{column, digits_within}
use Rattle.lts.specs.Names.{find_from}
use Rattle.lts.specs.Steps.{silent}
use Rattle.lts.specs.inner.Steps.{steps_from}
use Rattle.lts.specs.Reading.{read_table_with, read_labels_with, read_transitions}
use Rattle.lts.proofs.Examples.{lines, M_lines}
use Rattle.actl.specs.Actions.{in_set, mask_of, meets, passes}
use Rattle.actl.specs.Formulas.{class_of, highest_without_class}
use Rattle.actl.specs.inner.Reading.{read_formula}
use Rattle.satisfaction.specs.inner.Holds.{holds, within}
use Rattle.starts.specs.Starts.{wrong_start}
use Rattle.verdict_text.specs.VerdictsText.{entries_in, listed_verdicts, verdicts_text}

-- `EU[*;ack] T` holds at 0 and not at 2.
some-of_M : verdicts_text M_lines (ascii "EU[*;ack] T") (ascii "     0     2") ≡ lines ("     0     2" ∷ "     0     1" ∷ "     2     0" ∷ [])
unfolding verdicts_text listed_verdicts entries_in wrong_start holds within steps_from meets passes in_set class_of silent read_table_with read_labels_with read_transitions
    column digits_within read_formula find_from mask_of highest_without_class
some-of_M = refl

-- An empty list.
none-of_M : verdicts_text M_lines (ascii "EX[ack] T") [] ≡ lines ("     1     0" ∷ [])
unfolding verdicts_text listed_verdicts entries_in wrong_start holds within steps_from meets passes in_set class_of silent read_table_with read_labels_with read_transitions
    column digits_within read_formula find_from mask_of highest_without_class
none-of_M = refl

-- A number that is no state, and a rest of fewer than six bytes.
no-state-of_M : verdicts_text M_lines (ascii "T") (ascii "     0   300     1") ≡ lines ("    16     1" ∷ [])
unfolding verdicts_text listed_verdicts entries_in wrong_start holds within steps_from meets passes in_set class_of silent read_table_with read_labels_with read_transitions
    column digits_within read_formula find_from mask_of highest_without_class
no-state-of_M = refl

rest-of_M : verdicts_text M_lines (ascii "T") (ascii "     0     1 2") ≡ lines ("    16     2" ∷ [])
unfolding verdicts_text listed_verdicts entries_in wrong_start holds within steps_from meets passes in_set class_of silent read_table_with read_labels_with read_transitions
    column digits_within read_formula find_from mask_of highest_without_class
rest-of_M = refl
