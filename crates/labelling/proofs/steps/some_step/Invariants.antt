-- `some_step` meets its contract: the steps from k on are searched, and none before k comes out as wanted.
use mathlib.Core.Path.{◌≡◌}
use Prim.Native.Nat.{◌≤◌}
use Rattle.lts.specs.Lists.{any_of}
use Rattle.table_steps.specs.inner.StepArray.{steps_between, steps_in, span_of}
use Rattle.formulas.specs.inner.Access.{cond_in}
use Rattle.until_search.specs.inner.Flags.{leads_as_wanted, some_step}
use Rattle.labelling.specs.inner.Rows.{row_at}
use Rattle.labelling.proofs.steps.some_step.Given as goal

abbrev pub invariant-loop-k : goal.invariant-loop-k
invariant-loop-k l = ((span_of l.firsts l.s).from ≤ l.k) × (l.end ≡ (span_of l.firsts l.s).to)
    × (some_step l.wanted (cond_in l.condition) (row_at l.flags l.arm) (steps_in l.steps l.firsts l.s)
    ≡ any_of (leads_as_wanted l.wanted (cond_in l.condition) (row_at l.flags l.arm)) (steps_between l.steps l.s l.k l.end))
