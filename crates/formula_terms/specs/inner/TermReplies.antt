-- What the readers of terms, brackets and formulas answer.
use Rattle.std.specs.Prelude.{◌⊎◌, List, ℕ, Result, Ok, Err}
use Rattle.actl.specs.inner.Reader.{t_first, term_at}
use Rattle.actl.specs.inner.Cursor.{Fails}
use Rattle.formula_cursor.specs.declared.Cursor.{Cursor}
use Rattle.formula_terms.specs.declared.Nodes.{Nodes}
use Rattle.formula_terms.specs.declared.Chain.{Chain}
use Rattle.formula_terms.specs.declared.Whole.{Whole}
use Rattle.actl.specs.inner.Readers.{TermRead, FormulaRead, BracketRead, Unbracketed, WholeRead, RefusedAt}

abbrev pub TermAnswer : List (List ℕ) → List ℕ → ℕ → ℕ → ℕ → List ℕ → List ℕ → Result Nodes Cursor → Type 0
TermAnswer N s at n lost e x (Ok r) = TermRead N s at n lost e r.end.at r.count r.lost x
TermAnswer N s at n lost e x (Err c) = Fails s at c.at term_at

abbrev pub FormulaAnswer : List (List ℕ) → List ℕ → ℕ → ℕ → ℕ → List ℕ → List ℕ → Result Chain Cursor → Type 0
FormulaAnswer N s at n lost e x (Ok r) = FormulaRead N s at n lost e r.end.at r.behind.at r.count r.lost x
FormulaAnswer N s at n lost e x (Err c) = Fails s at c.at (λ k. term_at (t_first k))

abbrev pub BracketAnswer : List (List ℕ) → List ℕ → ℕ → ℕ → ℕ → List ℕ → List ℕ → Result Nodes Cursor → Type 0
BracketAnswer N s at n lost e x (Ok r) = BracketRead N s at n lost e r.end.at r.count r.lost x
BracketAnswer N s at n lost e x (Err c) = Fails s at c.at (λ k. term_at (t_first k)) ⊎ Unbracketed N s at n lost e c.at x

abbrev pub ReadingAnswer : List (List ℕ) → List ℕ → List ℕ → List ℕ → Result Whole ℕ → Type 0
ReadingAnswer N s e x (Ok r) = WholeRead N s e x r.count r.lost
ReadingAnswer N s e x (Err n) = RefusedAt s n
