-- The text that `print_verdicts` writes: the verdicts at a list of starts, or a refusal.
use Rattle.std.specs.Prelude.{cond, List, [], ◌∷◌, ◌++◌, ℕ, zero, suc, ◌+◌, ◌/◌, length, take, drop}
use Rattle.columns.specs.Bytes.{same_bytes}
use Rattle.columns.specs.Columns.{column, value_from}
use Rattle.columns.specs.Lines.{numbers_line}
use Rattle.lts.specs.Lists.{bind}
use Rattle.lts.specs.Sizes.{most_states}
use Rattle.lts.specs.Reply.{Reply, accepted, refusal}
use Rattle.lts.specs.Reading.{read_table}
use Rattle.lts.specs.Steps.{Table}
use Rattle.actl.specs.Formulas.{Formula}
use Rattle.actl.specs.Reading.{unless_found}
use Rattle.actl.specs.inner.Reading.{read_formula}
use Rattle.satisfaction.specs.inner.Holds.{verdict}
use Rattle.explanations.specs.Explanation.{and_then}
use Rattle.explanations.specs.Printed.{refusal_line, without_end}
use Rattle.starts.specs.Starts.{starting_at, wrong_start}
use Rattle.starts.specs.VerdictsAsked.{verdicts_at, joint}

-- The list has each number in six columns, one behind the other. Six bytes that hold none, and fewer at the end, name no state: no table has a state 256.
abbrev pub entry_in : List ℕ → ℕ
entry_in six = cond (same_bytes six (column (value_from 0 six))) (value_from 0 six) most_states

abbrev pub entries_within : ℕ → List ℕ → List ℕ
entries_within zero list = []
entries_within (suc n) list = entry_in (take 6 list) ∷ entries_within n (drop 6 list)

unfoldable pub entries_in : List ℕ → List ℕ
entries_in list = entries_within ((length list + 5) / 6) list

-- A line with the joint answer and the count, then the state and its verdict, line by line.
abbrev pub verdict_line : Table → Formula → ℕ → List ℕ
verdict_line t F s = numbers_line (s ∷ verdict (starting_at t s) F ∷ [])

abbrev pub verdict_lines : Table → Formula → List ℕ → List ℕ
verdict_lines t F starts = numbers_line (joint (verdicts_at t F starts) ∷ length starts ∷ []) ++ bind (verdict_line t F) starts

-- The refusals of the entries in turn: reading the table, reading the formula, asking for the verdicts.
unfoldable pub listed_verdicts : List ℕ → List ℕ → List ℕ → Reply (List ℕ)
listed_verdicts table_text text starts =
    and_then (read_table table_text) (λ t.
    and_then (read_formula t.names text) (λ F.
    unless_found (wrong_start t.states starts) 16 (accepted (verdict_lines t F starts))))

abbrev pub lines_of : Reply (List ℕ) → List ℕ
lines_of (accepted lines) = lines
lines_of (refusal number figure) = refusal_line number figure

-- What `print_verdicts` writes for the contents of its two files and for its standard input.
unfoldable pub verdicts_text : List ℕ → List ℕ → List ℕ → List ℕ
verdicts_text tableFile formulaFile list = lines_of (listed_verdicts tableFile (without_end formulaFile) (entries_in list))
