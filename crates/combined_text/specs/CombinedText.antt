-- The text that `print_combined` writes: that of the table in which two tables run side by side, or a refusal.
use Rattle.std.specs.Prelude.{List, [], ◌∷◌, ℕ}
use Rattle.columns.specs.Lines.{numbers_line}
use Rattle.lts.specs.Reading.{read_table}
use Rattle.lts.specs.Reply.{Reply, accepted, refusal}
use Rattle.lts.specs.TableText.{table_text}
use Rattle.side_by_side.specs.Combining.{combining}

-- A refusal's line: number, figure, and the file that it is about, 1 or 2; 0 if it is about both together.
abbrev pub refused_line : ℕ → ℕ → ℕ → List ℕ
refused_line file number figure = numbers_line (number ∷ figure ∷ file ∷ [])

abbrev pub unless_refused : {A : Type 0} → ℕ → Reply A → (A → List ℕ) → List ℕ
unless_refused file (accepted a) next = next a
unless_refused file (refusal number figure) next = refused_line file number figure

-- The refusals in turn: reading the first file, reading the second, combining.
unfoldable pub combined_text : List ℕ → List ℕ → List ℕ
combined_text one two =
    unless_refused 1 (read_table one) (λ f.
    unless_refused 2 (read_table two) (λ s.
    unless_refused 0 (combining f s) table_text))
