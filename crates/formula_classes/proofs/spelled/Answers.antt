-- `spelled` meets its contract: the kinds are those of a formula with a class exactly if the walk ends behind the last of them.
use mathlib.Core.Path.{sym, subst}
use borrow.Author.Tests.{ne_eqb}
use Rattle.lts.specs.inner.Answers.{Decides}
use Rattle.actl.specs.inner.Check.{SpelledClassed}
use Rattle.lts.proofs.Laws.Decides.{decided_no}
use Rattle.formula_classes.proofs.Laws.Walked.{not-spelled, not-ending, spelled_decided}
use Rattle.formula_classes.proofs.spelled.Goals as goal

pub returns-in_default : goal.returns-in_default
returns-in_default c = decided_no (not-spelled c.args.formula.now c.args.count c.in_default.ensures)

pub returns-then-root-count : goal.returns-then-root-count
returns-then-root-count c = spelled_decided c.args.formula.now c.args.count c.in-Some.ensures c.if-root-count.true

pub returns-else-root-count : goal.returns-else-root-count
returns-else-root-count c =
    let a = c.args in
    let not_equal = ne_eqb c.in-Some.root.end a.count c.if-root-count.false in
    subst (Decides (SpelledClassed a.formula.now a.count)) (sym not_equal) (decided_no (not-ending a.formula.now a.count c.in-Some.ensures c.if-root-count.false))
