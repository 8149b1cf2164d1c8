-- `value_at` gives the value of the six bytes: the invariant is `Valued`, what is left of the value.
use native.Mathlib.Omega.{arith}
use Rattle.columns.proofs.Laws.Scan.{value-starts, value-fits, value_goes_on, value-ends}
use Rattle.columns.proofs.value_at.Goals as goal

pub loop-i-init : goal.loop-i-init
loop-i-init c =
    value-starts c.args.text.now c.args.at

pub overflow_mul-n : goal.overflow_mul-n
overflow_mul-n c =
    omega (arith, value-fits c.loop-i.invariant)

pub overflow_add-n : goal.overflow_add-n
overflow_add-n c =
    omega (arith, value-fits c.loop-i.invariant, c.digit.ensures.1)

pub loop-i-preserved : goal.loop-i-preserved
loop-i-preserved c =
    let read = c.digit in
    value_goes_on c.loop-i.invariant c.requires c.loop-i-test.true read.result read.ensures.0 read.ensures.1

pub returns : goal.returns
returns c =
    value-ends c.loop-i.invariant c.requires c.loop-i-test.false
