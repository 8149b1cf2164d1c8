-- `close` writes what is pending, byte by byte, up to a `|`.
use mathlib.Core.Path.{refl, ◌∙◌}
use native.Mathlib.Omega.{arith}
use Rattle.formula_pieces.proofs.Laws.Adds.{room_after}
use Rattle.formula_walk.proofs.Laws.Closing.{closing-start, closing-more, closing_bar, closing_end}
use Rattle.formula_walk.proofs.close.Goals as goal

pub loop-left-init : goal.loop-left-init
loop-left-init c =
    closing-start _ _ _ _

pub bounds-pending-left : goal.bounds-pending-left
bounds-pending-left c =
    let l = c.loop-left in
    let stack = c.requires.0 in
    omega (arith, l.invariant.count, stack.long, stack.within, c.loop-left-test.true)

pub put-end-requires : goal.put-end-requires
put-end-requires c =
    let l = c.loop-left in
    room_after c.requires.1 l.invariant.adds 1 (omega (arith, l.invariant.count, c.requires.0.within, c.loop-left-test.true))

pub shape_of-out-then-b-eq124 : goal.shape_of-out-then-b-eq124
shape_of-out-then-b-eq124 c =
    c.put-end.ensures.long ∙ c.loop-left.invariant.adds.long

pub returns-then-b-eq124 : goal.returns-then-b-eq124
returns-then-b-eq124 c =
    closing_bar _ _ _ _ c.loop-left.invariant c.loop-left-test.true c.put-end.ensures c.if-b-eq124.true _ (refl, refl, refl)

pub loop-left-preserved : goal.loop-left-preserved
loop-left-preserved c =
    closing-more _ _ _ _ c.loop-left.invariant c.loop-left-test.true c.put-end.ensures c.if-b-eq124.false

pub shape_of-out : goal.shape_of-out
shape_of-out c =
    c.loop-left.invariant.adds.long

pub returns : goal.returns
returns c =
    closing_end _ _ _ _ c.loop-left.invariant (omega (arith, c.loop-left-test.false)) _ (refl, omega arith, refl)
