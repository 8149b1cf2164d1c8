-- `fill_steps` meets its contract: the steps of the states below s stand in the array. In the first loop a transitions leave one of these
use mathlib.Core.Path.{◌≡◌}
use Prim.Native.Nat.{◌≤◌}
use Rattle.lts.specs.Sizes.{most_states}
use Rattle.lts.specs.inner.Prepared.{table_in}
use Rattle.table_steps.specs.inner.StepArray.{exits_below}
use Rattle.table_steps.proofs.Laws.StepArray.{BelowDone}
use Rattle.table_steps.proofs.fill_steps.Given as goal

-- states, in the second all do.
abbrev pub invariant-loop-s : goal.invariant-loop-s
invariant-loop-s l = (l.s ≤ l.states) × (l.a ≡ exits_below (table_in l.table).transitions l.s) × BelowDone (table_in l.table) l.s l.at l.steps l.firsts

abbrev pub invariant-loop-s-2 : goal.invariant-loop-s-2
invariant-loop-s-2 l = (l.states ≤ l.s) × (l.s ≤ most_states) × BelowDone (table_in l.table) l.s l.at l.steps l.firsts
