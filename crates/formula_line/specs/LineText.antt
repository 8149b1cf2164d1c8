-- The text that `print_formula` writes: the formula as it is written back, or a refusal.
use Rattle.std.specs.Prelude.{List, [], ◌∷◌, ◌++◌, ℕ}
use Rattle.lts.specs.Reply.{Reply, accepted, refusal}
use Rattle.lts.specs.Reading.{read_table}
use Rattle.actl.specs.inner.Reading.{read_formula}
use Rattle.explanations.specs.Explanation.{and_then}
use Rattle.explanations.specs.Printed.{refusal_line, without_end}
use Rattle.written_back.specs.FormulaText.{formula_text}
use Rattle.written_back.specs.FormulaWriting.{unless_long}

-- The refusals of the entries in turn: reading the table, reading the formula, writing.
unfoldable pub written_back : List ℕ → List ℕ → Reply (List ℕ)
written_back table_text text =
    and_then (read_table table_text) (λ t.
    and_then (read_formula t.names text) (λ F. unless_long (formula_text t.names F)))

-- An LF ends the text, as it ends a refusal's line.
abbrev pub line_of : Reply (List ℕ) → List ℕ
line_of (accepted s) = s ++ (10 ∷ [])
line_of (refusal number figure) = refusal_line number figure

-- What `print_formula` writes for the contents of its two files.
unfoldable pub line_text : List ℕ → List ℕ → List ℕ
line_text tableFile formulaFile = line_of (written_back tableFile (without_end formulaFile))
