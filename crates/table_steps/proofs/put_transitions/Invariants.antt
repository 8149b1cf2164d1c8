-- `put_transitions` meets its contract: what is left of the part is put behind what is there.
use mathlib.Core.Path.{◌≡◌}
use mathlib.Core.List.{map}
use Prim.Native.Nat.{◌+◌, ◌-◌, ◌≤◌}
use lib.ListN.{length}
use lib.Seq.{slice}
use Rattle.lts.specs.inner.Sizes.{most_steps}
use Rattle.lts.specs.inner.Prepared.{table_in}
use Rattle.table_steps.specs.inner.StepArray.{step_code}
use Rattle.table_steps.proofs.Laws.StepArray.{PutSoFar}
use Rattle.table_steps.proofs.put_transitions.Given as goal

abbrev pub invariant-loop-j : goal.invariant-loop-j
invariant-loop-j l = (l.j ≤ l.b) × (l.p + (l.b - l.j) ≤ most_steps) × (length l.steps ≡ most_steps)
    × PutSoFar (map step_code (slice l.a l.b (table_in l.table).transitions)) l.at l.initial.steps (map step_code (slice l.j l.b (table_in l.table).transitions)) l.p l.steps
