-- `label_at_once` meets its contract: the states below s are labelled.
use Prim.Native.Nat.{◌≤◌}
use Rattle.table_steps.specs.inner.StepArray.{steps_in}
use Rattle.until_search.specs.inner.Flags.{at_once, Flags}
use Rattle.labelling.specs.inner.Rows.{row_at}
use Rattle.labelling.proofs.steps.label_at_once.Given as goal

abbrev pub invariant-loop-s : goal.invariant-loop-s
invariant-loop-s l = (l.s ≤ l.states) × Flags l.s (λ v. at_once l.node (row_at l.flags l.arm) (row_at l.flags l.other) v (steps_in l.steps l.firsts v)) l.found
