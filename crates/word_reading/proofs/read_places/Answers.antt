-- `reading::read_places` meets its contract, by whether the places have targets.
use mathlib.Core.Path.{◌≡◌, sym, ap, ◌∙◌, subst}
use mathlib.Core.Bool.{cond}
use lib.Dec.{eqb}
use borrow.Author.Rules.{rules}
use borrow.Author.Tests.{eq-eqb, ne_eqb}
use Rattle.table_steps.specs.inner.StepArray.{steps_in}
use Rattle.frontier.specs.inner.Reached.{steps_taken}
use Rattle.word_reading.proofs.read_places.Goals as goal

pub returns-then-targets-ne0 : goal.returns-then-targets-ne0
returns-then-targets-ne0 c =
    let a = c.args in
    let targets = c.targets_of-targets in
    let steps = steps_in a.steps.now a.firsts.now a.s in
    c.take_steps.ensures
    ∙ subst (λ m. steps_taken a.label targets.result steps a.next.now ≡ cond (eqb m 0) a.next.now (steps_taken a.label m steps a.next.now)) targets.ensures
    (sym (ap (λ b. cond b a.next.now (steps_taken a.label targets.result steps a.next.now)) (ne_eqb targets.result 0 c.if-targets-ne0.true)))

pub returns-else-targets-ne0 : goal.returns-else-targets-ne0
returns-else-targets-ne0 c =
    let a = c.args in
    let targets = c.targets_of-targets in
    let steps = steps_in a.steps.now a.firsts.now a.s in
    subst (λ m. a.next.now ≡ cond (eqb m 0) a.next.now (steps_taken a.label m steps a.next.now)) targets.ensures
    (sym (ap (λ b. cond b a.next.now (steps_taken a.label targets.result steps a.next.now)) (eq-eqb targets.result 0 c.if-targets-ne0.false)))
