-- Worked files: the first that is refused, and its line.
use mathlib.Core.Path.{◌≡◌, refl}
use mathlib.Core.List.{[], ◌∷◌, ◌++◌}
use Rattle.columns.specs.Ascii.{ascii}
use Rattle.columns.specs.Columns.{digits_within, column}
use Rattle.lts.specs.Reading.{read_table_with, read_labels_with, read_transitions}
use Rattle.combined_text.specs.CombinedText.{combined_text}

-- No file has a line: the first is told.
both_empty : combined_text [] [] ≡ ascii "     1     1     1" ++ (10 ∷ [])
unfolding combined_text read_table_with column digits_within
both_empty = refl

second_empty : combined_text (ascii "     1     0     0     0" ++ (10 ∷ [])) [] ≡ ascii "     1     1     2" ++ (10 ∷ [])
unfolding combined_text read_table_with read_labels_with read_transitions column digits_within
second_empty = refl
