-- `is_column` tells whether six bytes are a column: the invariant is `Compared`, what is left to compare.
use Rattle.columns.proofs.Laws.Scan.{Compared}
use Rattle.columns.proofs.is_column.Given as goal

abbrev pub invariant-loop-i : goal.invariant-loop-i
invariant-loop-i l = Compared l.text l.at l.v l.n l.i
