-- 01, "The listing of `explain`": the text that the program writes.
use Rattle.std.specs.Prelude.{cond, List, [], ◌∷◌, ◌++◌, ℕ, suc, ◌*◌, eqb, replicate}
use Rattle.automaton.specs.Bytes.{row_length, edge_length, bit_of}
use Rattle.explanations.specs.Sizes.{rows_lent, edges_lent}
use Rattle.columns.specs.Lines.{numbers_line}
use Rattle.lts.specs.Lists.{bind}
use Rattle.lts.specs.Reply.{Reply, accepted, refusal}
use Rattle.automaton.specs.Listing.{Row, Edge}
use Rattle.explanations.specs.Explanation.{Summary, Explanation, summary, explanation}

-- "per row its number, place, state, final (1 or 0)"
abbrev pub row_lines : ℕ → List Row → List ℕ
row_lines i [] = []
row_lines i (r ∷ l) = numbers_line (i ∷ r.place ∷ r.state ∷ bit_of r.final ∷ []) ++ row_lines (suc i) l

-- "per edge its row, label, target row"
abbrev pub edge_line : Edge → List ℕ
edge_line e = numbers_line (e.row ∷ e.label ∷ e.target ∷ [])

-- "verdict (1 holds, 0 not), class, rows, edges"
abbrev pub summary_line : Summary → List ℕ
summary_line s = numbers_line (s.verdict ∷ s.class ∷ s.rows ∷ s.edges ∷ [])

-- "A refusal prints one line: number, returned figure."
abbrev pub refusal_line : ℕ → ℕ → List ℕ
refusal_line number figure = numbers_line (number ∷ figure ∷ [])

unfoldable pub printed : Reply Explanation → List ℕ
printed (accepted e) = summary_line (summary e) ++ (row_lines 0 e.list.rows ++ bind edge_line e.list.edges)
printed (refusal number figure) = refusal_line number figure

-- "One LF at the end of `formula.txt` is dropped."
abbrev pub without_end : List ℕ → List ℕ
without_end [] = []
without_end (b ∷ []) = cond (eqb b 10) [] (b ∷ [])
without_end (b ∷ c ∷ l) = b ∷ without_end (c ∷ l)

-- "The program lends places for 1,024 rows and 4,096 edges."
abbrev pub lent_explanation : List ℕ → List ℕ → Reply Explanation
lent_explanation table_text formula_text = explanation table_text formula_text (replicate (rows_lent * row_length) 0) (replicate (edges_lent * edge_length) 0)

-- What `explain` writes for the contents of its two files.
unfoldable pub explain_text : List ℕ → List ℕ → List ℕ
explain_text tableFile formulaFile = printed (lent_explanation tableFile (without_end formulaFile))
