-- `reading::take_step` meets its contract, by whether the step has the label.
use mathlib.Core.Path.{◌≡◌, sym, ap, ◌∙◌}
use borrow.Author.Rules.{rules}
use Rattle.table_steps.specs.inner.StepArray.{step_at}
use Rattle.frontier.specs.inner.Frontier.{brought}
use Rattle.frontier.proofs.Laws.Left.{step-taken, step-not-taken}
use Rattle.word_reading.proofs.take_step.Goals as goal

pub returns-then-label_of-label : goal.returns-then-label_of-label
returns-then-label_of-label c =
    let label = c.label_of.ensures in
    let a = c.args in
    λ s.
    c.bring.ensures
    ∙ (ap (λ v. brought v a.places a.next.now) c.state_of.ensures.value
    ∙ step-taken a.label a.places (step_at a.steps.now s a.k) a.next.now (sym label ∙ c.if-label_of-label.true))

pub returns-else-label_of-label : goal.returns-else-label_of-label
returns-else-label_of-label c =
    let label = c.label_of.ensures in
    let a = c.args in
    λ s. step-not-taken a.label a.places (step_at a.steps.now s a.k) a.next.now (λ e. c.if-label_of-label.false (label ∙ e))
