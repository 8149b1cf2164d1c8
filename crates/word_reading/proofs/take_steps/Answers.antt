-- `reading::take_steps` meets its contract: the steps below k are taken.
use mathlib.Core.Path.{◌≡◌, sym, ap, ◌∙◌}
use Prim.Native.Nat.{ℕ, ◌≤◌, ◌<◌, ◌+◌, ◌-◌}
use native.Mathlib.Omega.{arith}
use Rattle.lts.specs.inner.Sizes.{most_steps}
use Rattle.table_steps.specs.inner.StepArray.{steps_between, steps_in, span_of}
use Rattle.lts.specs.declared.spans.Span.{Span}
use Rattle.frontier.specs.inner.Reached.{steps_taken}
use Rattle.frontier.proofs.Laws.Left.{steps_next, steps_over}
use Rattle.word_reading.proofs.take_steps.Goals as goal

pub leaving-span-requires : goal.leaving-span-requires
leaving-span-requires c =
    c.requires.s_lt_most_states

pub loop-k-init : goal.loop-k-init
loop-k-init c =
    let a = c.args in
    let span : c.leaving-span.result ≡ span_of a.firsts.now a.s = c.leaving-span.ensures in
    (ap (λ (x : Span). x.to) span, ap (λ (x : Span). steps_taken a.label a.places (steps_between a.steps.now a.s x.from x.to) a.next.now) (sym span))

pub take_step-requires : goal.take_step-requires
take_step-requires c =
    let placed : c.loop-k.k < most_steps = omega (arith, c.loop-k-test.true, c.loop-k.invariant.0, c.requires.steps_fit.few c.args.s c.requires.s_lt_most_states) in
    placed

pub loop-k-preserved : goal.loop-k-preserved
loop-k-preserved c =
    let a = c.args in
    let taken = c.loop-k-test.true in
    (c.loop-k.invariant.0, c.loop-k.invariant.1 ∙ steps_next a.label a.places a.steps.now a.s c.loop-k.k _ c.loop-k.next taken _ (c.take_step.ensures a.s))

pub returns : goal.returns
returns c =
    let loop = c.loop-k in
    let a = c.args in
    sym (loop.invariant.1 ∙ steps_over a.label a.places a.steps.now a.s loop.k _ loop.next c.loop-k-test.false)
