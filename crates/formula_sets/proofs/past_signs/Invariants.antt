-- `past_signs` goes over `~` and blanks: each turn of its loop takes one `~` with the blanks behind it.
use Prim.Native.Nat.{◌-◌}
use lib.ListN.{length}
use Rattle.formula_sets.specs.inner.OperandPhases.{SignsPassed}
use Rattle.formula_sets.proofs.past_signs.Given as goal

abbrev pub invariant-loop-e : goal.invariant-loop-e
invariant-loop-e l = SignsPassed l.text l.initial.d.at l.d.at l.odd

abbrev pub decreases-loop-e : goal.decreases-loop-e
decreases-loop-e l = length l.text - l.d.at
