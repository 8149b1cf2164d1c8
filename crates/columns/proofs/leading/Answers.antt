-- `leading` gives the byte `lead`.
use borrow.Author.Tests.{eq-eqb, ne_eqb}
use Rattle.columns.proofs.leading.Goals as goal

pub returns-then-n-eq0 : goal.returns-then-n-eq0
returns-then-n-eq0 c =
    rw (eq-eqb c.args.n 0 c.if-n-eq0.true)

pub returns-else-n-eq0 : goal.returns-else-n-eq0
returns-else-n-eq0 c =
    rw (ne_eqb c.args.n 0 c.if-n-eq0.false)
