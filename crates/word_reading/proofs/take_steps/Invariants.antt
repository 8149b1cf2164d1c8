-- `reading::take_steps` meets its contract: the steps below k are taken.
use mathlib.Core.Path.{◌≡◌, sym, ap, ◌∙◌}
use Prim.Native.Nat.{ℕ, ◌≤◌, ◌<◌, ◌+◌, ◌-◌}
use native.Mathlib.Omega.{arith}
use Rattle.lts.specs.inner.Sizes.{most_steps}
use Rattle.table_steps.specs.inner.StepArray.{steps_between, steps_in, span_of}
use Rattle.lts.specs.declared.spans.Span.{Span}
use Rattle.frontier.specs.inner.Reached.{steps_taken}
use Rattle.frontier.proofs.Laws.Left.{steps_next, steps_over}
use Rattle.word_reading.proofs.take_steps.Given as goal

abbrev pub invariant-loop-k : goal.invariant-loop-k
invariant-loop-k l = (l.end ≡ (span_of l.firsts l.s).to)
    × (steps_taken l.label l.places (steps_in l.steps l.firsts l.s) l.initial.next ≡ steps_taken l.label l.places (steps_between l.steps l.s l.k l.end) l.next)
