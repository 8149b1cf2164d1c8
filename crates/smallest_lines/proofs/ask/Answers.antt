-- `ask` meets its contract: the refusal of a reading, or what `find` answers and leaves of what was read.
use borrow.Author.Rules.{rules}
use native.Mathlib.Omega.{arith}
use Rattle.std.proofs.lemmas.Result.{err_from_is_err_and}
use Rattle.explaining.proofs.Into.{was_read, was_refused}
use Rattle.explaining.proofs.Answers.{answered}
use Rattle.smallest_lines.specs.inner.Asking.{Asked}
use Rattle.smallest_lines.proofs.Laws.Asking.{refused_texts, asked_texts}
use Rattle.smallest_lines.proofs.ask.Goals as goal

pub returns-in_err-read_both : goal.returns-in_err-read_both
returns-in_err-read_both c =
    let a = c.args in
    let told = c.read_both in
    let p = err_from_is_err_and c.from_residual.result c.from_residual.ensures.1 in
    rw (p.1, p.2) (
      c.in_err-read_both.ensures.refused,
      refused_texts a.tabletext.now a.formulatext.now a.automaton.now _
          (was_refused a.tabletext.now a.formulatext.now told.new.table told.new.formula told.ensures.both _ c.in_err-read_both.was),
    )

pub returns : goal.returns
returns c =
    let a = c.args in
    let told = c.read_both in
    let was = was_read a.tabletext.now a.formulatext.now told.new.table told.new.formula told.ensures.both c.in_ok-read_both.was in
    answered (Asked a.tabletext.now a.formulatext.now a.automaton.now _) c.accepted.result c.accepted.ensures
    (asked_texts a.tabletext.now a.formulatext.now was a.automaton.now (omega arith) (omega arith) (omega arith) c.find-said.ensures)
