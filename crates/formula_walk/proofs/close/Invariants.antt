-- `close` writes what is pending, byte by byte, up to a `|`.
use Rattle.formula_walk.proofs.Laws.Closing.{Closing}
use Rattle.formula_walk.proofs.close.Given as goal

abbrev pub invariant-loop-left : goal.invariant-loop-left
invariant-loop-left l = Closing l.pending l.top l.at l.initial.out l.out l.end l.left
