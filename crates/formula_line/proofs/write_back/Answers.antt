-- `write_back` meets its contract: the refusal of a reading, or what `write_formula` answers and leaves of what was read.
use borrow.Author.Rules.{rules}
use native.Mathlib.Omega.{arith}
use Rattle.std.proofs.lemmas.Result.{err_from_is_err_and}
use Rattle.explaining.proofs.Answers.{said_of, answered}
use Rattle.explaining.proofs.Into.{was_read, was_refused}
use Rattle.formula_line.specs.inner.Back.{WroteBack}
use Rattle.formula_line.proofs.Reading.{refused_back, written_back_lem}
use Rattle.formula_line.proofs.write_back.Goals as goal

pub returns-in_err-read_both : goal.returns-in_err-read_both
returns-in_err-read_both c =
    let a = c.args in
    let told = c.read_both in
    let p = err_from_is_err_and c.from_residual.result c.from_residual.ensures.1 in
    rw (p.1, p.2) (
      c.in_err-read_both.ensures.refused,
      refused_back a.tabletext.now a.formulatext.now a.text.now _
          (was_refused a.tabletext.now a.formulatext.now told.new.table told.new.formula told.ensures.both _ c.in_err-read_both.was),
    )

pub returns : goal.returns
returns c =
    let a = c.args in
    let told = c.read_both in
    let was = was_read a.tabletext.now a.formulatext.now told.new.table told.new.formula told.ensures.both c.in_ok-read_both.was in
    answered (WroteBack a.tabletext.now a.formulatext.now a.text.now _) c.accepted.result c.accepted.ensures
    (written_back_lem a.tabletext.now a.formulatext.now was a.text.now (omega arith) (omega arith) (omega arith)
    (said_of c.write_answer.ensures c.write_formula.ensures.result_value) c.write_formula.ensures.text_after)
