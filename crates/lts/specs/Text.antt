-- The lines of a table's text.
use Rattle.std.specs.Prelude.{List, [], ◌∷◌, ◌++◌, ℕ}
use Rattle.columns.specs.Columns.{column}
use Rattle.lts.specs.Steps.{Step, labels}

-- 01: "ASCII lines, each ended by LF (byte 10)."
abbrev pub ended : List ℕ → List ℕ
ended l = l ++ (10 ∷ [])

-- 01: "Line 1: states, labels, transitions, start"
abbrev pub header_line : ℕ → ℕ → ℕ → ℕ → List ℕ
header_line states labels transitions start = column states ++ (column labels ++ (column transitions ++ column start))

-- 01: "One line per label: its number, one blank, its name."
abbrev pub label_line : ℕ → List ℕ → List ℕ
label_line number name = column number ++ (32 ∷ name)

-- 01: "One line per transition: from, label, to."
abbrev pub transition_line : Step → List ℕ
transition_line st = column st.from ++ (column st.label ++ column st.to)
