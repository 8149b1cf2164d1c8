-- `spread` meets its contract: the invariant is `Written`, the digits that stand so far.
use mathlib.Core.Path.{◌≡◌, subst}
use native.Mathlib.Omega.{arith}
use Rattle.columns.proofs.Laws.Figures.{written-first, written-room, written_next, written-column, Written}
use Rattle.columns.proofs.write.spread.Goals as goal

pub loop-rest-init : goal.loop-rest-init
loop-rest-init c =
    written-first c.args.n (omega arith)

pub overflow_sub-from : goal.overflow_sub-from
overflow_sub-from c =
    omega (arith, written-room c.loop-rest.invariant c.loop-rest-test.true)

pub loop-rest-preserved : goal.loop-rest-preserved
loop-rest-preserved c =
    written_next c.loop-rest.invariant c.loop-rest-test.true

pub returns-then-from-gt14 : goal.returns-then-from-gt14
returns-then-from-gt14 c =
    let l = c.loop-rest in
    let done : l.rest ≡ 0 = omega arith in
    let w : Written c.args.n l.bytes l.from 0 = subst (Written _ _ _) done l.invariant in
    record { figures = written-column _ _ _ w 14 (omega arith) (omega (arith, w.within)); within = omega arith; size = w.size }

pub returns-else-from-gt14 : goal.returns-else-from-gt14
returns-else-from-gt14 c =
    let l = c.loop-rest in
    let done : l.rest ≡ 0 = omega arith in
    let w : Written c.args.n l.bytes l.from 0 = subst (Written _ _ _) done l.invariant in
    record { figures = written-column _ _ _ w l.from (omega arith) (omega arith); within = omega arith; size = w.size }
