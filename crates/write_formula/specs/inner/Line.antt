-- What writing prepared bytes answers and leaves.
use Rattle.std.specs.Prelude.{◌≡◌, List, ℕ, length, Result}
use Rattle.std.proofs.Math.Option.{some}
use Rattle.lts.specs.Reply.{Reply, left_in, answers}
use Rattle.lts.specs.Steps.{labels}
use Rattle.lts.specs.inner.Prepared.{table_in}
use Rattle.actl.specs.Formulas.{Formula}
use Rattle.actl.specs.inner.Prepared.{prepared_formula}
use Rattle.written_back.specs.FormulaText.{formula_text}
use Rattle.written_back.specs.FormulaWriting.{unless_long}
use Rattle.write_formula.specs.Replies.{write_reply}
use Rattle.write_formula.specs.declared.WriteRefusal.{WriteRefusal}

abbrev pub line_of : List ℕ → Formula → Reply (List ℕ)
line_of table F = unless_long (formula_text (table_in table).names F)

pub record LineWritten (table formula text text' : List ℕ) (r : Result ℕ WriteRefusal) : Type 0 where
  pub replies : (F : Formula) → prepared_formula (labels (table_in table)) formula ≡ some F → write_reply r ≡ answers length (line_of table F)
  pub leaves : (F : Formula) → prepared_formula (labels (table_in table)) formula ≡ some F → text' ≡ left_in (λ s. s) (line_of table F) text
