-- `value_at` gives the value of the six bytes: the invariant is `Valued`, what is left of the value.
use Rattle.columns.proofs.Laws.Scan.{Valued}
use Rattle.columns.proofs.value_at.Given as goal

abbrev pub invariant-loop-i : goal.invariant-loop-i
invariant-loop-i l = Valued l.text l.at l.n l.i
