-- `open` makes a `|` pending, and where it is an arm also a `)`, behind a `(`.
use mathlib.Core.Path.{refl}
use native.Mathlib.Omega.{arith}
use lib.ListN.{length-set}
use Rattle.formula_walk.proofs.Laws.Opening.{opened_arm, opened_left}
use Rattle.formula_walk.proofs.open.Goals as goal

pub bounds-pending-top-then-arm : goal.bounds-pending-top-then-arm
bounds-pending-top-then-arm c =
    omega (arith, c.requires.0.long, c.requires.0.within, length-set c.args.pending.now c.args.top 41)

pub returns-then-arm : goal.returns-then-arm
returns-then-arm c =
    let a = c.args in
    opened_arm a.arm a.pending.now a.top a.at a.out.now c.requires.0 c.if-arm.true c.put.ensures _ (refl, refl, refl)

pub returns : goal.returns
returns c =
    let a = c.args in
    opened_left a.arm a.pending.now a.top a.at a.out.now c.requires.0 c.if-arm.false _ (refl, refl, refl)
