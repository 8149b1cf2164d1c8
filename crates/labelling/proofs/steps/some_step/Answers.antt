-- `some_step` meets its contract: the steps from k on are searched, and none before k comes out as wanted.
use mathlib.Core.Path.{◌≡◌, sym, ap, ◌∙◌, subst}
use mathlib.Core.Bool.{Bool, ◌&&◌}
use Prim.Native.Nat.{◌<◌}
use native.Mathlib.Omega.{arith}
use Rattle.lts.specs.inner.Sizes.{most_steps}
use Rattle.lts.specs.Lists.{any_of}
use Rattle.lts.specs.Steps.{Step}
use Rattle.lts.specs.inner.Steps.{Carried}
use Rattle.table_steps.specs.inner.StepArray.{step_at, steps_between, span_of}
use Rattle.lts.specs.declared.spans.Span.{Span}
use Rattle.actl.specs.Actions.{meets}
use Rattle.formulas.specs.inner.Access.{cond_in}
use Rattle.until_search.specs.inner.Flags.{as_wanted, leads_as_wanted}
use Rattle.labelling.specs.inner.Rows.{row_at}
use Rattle.until_search.proofs.Laws.Flags.{some-found, some-later, some-none}
use Rattle.labelling.proofs.steps.some_step.Goals as goal

pub leaving-span-requires : goal.leaving-span-requires
leaving-span-requires c =
    c.requires.s_lt_most_states.0

pub loop-k-init : goal.loop-k-init
loop-k-init c =
    let wanted : Step → Bool = leads_as_wanted c.args.wanted (cond_in c.args.condition) (row_at c.args.flags.now c.args.arm) in
    let a = c.args in
    let span : c.leaving-span.result ≡ span_of a.firsts.now a.s = c.leaving-span.ensures in
    let from = ap (λ (x : Span). x.from) span in
    let all = ap (λ (x : Span). any_of (wanted) (steps_between a.steps.now a.s x.from x.to)) (sym span) in
    (omega (arith, from), ap (λ (x : Span). x.to) span, all)

pub offset_bounds-steps-k : goal.offset_bounds-steps-k
offset_bounds-steps-k c =
    let placed : c.loop-k.k < most_steps = omega (arith, c.loop-k-test.true, c.loop-k.invariant.1, c.requires.steps_fit.few c.args.s c.requires.s_lt_most_states.0) in
    omega (arith, placed)

pub bounds-steps-k : goal.bounds-steps-k
bounds-steps-k c =
    let placed : c.loop-k.k < most_steps = omega (arith, c.loop-k-test.true, c.loop-k.invariant.1, c.requires.steps_fit.few c.args.s c.requires.s_lt_most_states.0) in
    omega (arith, placed)

pub state_of-to-requires : goal.state_of-to-requires
state_of-to-requires c =
    tt

pub flag-there-requires : goal.flag-there-requires
flag-there-requires c =
    (c.requires.s_lt_most_states.1, c.state_of-to.ensures.upper_bound)

pub label_of-requires : goal.label_of-requires
label_of-requires c =
    tt

pub leads-requires : goal.leads-requires
leads-requires c =
    let below = c.loop-k-test.true in
    let inv = c.loop-k.invariant in
    let carried = c.requires.steps_fit.labelled c.args.s c.loop-k.k c.requires.s_lt_most_states.0 inv.0 (omega (arith, below, inv.1)) in
    subst Carried (sym c.label_of.ensures) carried

pub returns-then-leads : goal.returns-then-leads
returns-then-leads c =
    let wanted : Step → Bool = leads_as_wanted c.args.wanted (cond_in c.args.condition) (row_at c.args.flags.now c.args.arm) in
    let searched : Step = step_at c.args.steps.now c.args.s c.loop-k.k in
    let outcome : wanted (searched) ≡ c.leads.result = let a = c.args in
    let label = c.label_of.ensures in
    let to = c.state_of-to.ensures.value in
    sym (λ i. wanted (record { from = a.s; label = label i; to = to i }))
    ∙ sym (ap (λ b. as_wanted a.wanted (meets (cond_in a.condition) c.label_of.result && b)) c.flag-there.ensures)
    ∙ sym c.leads.ensures in
    let taken = c.loop-k-test.true in
    sym (c.loop-k.invariant.2 ∙ some-found (wanted) c.args.steps.now c.args.s c.loop-k.k _ taken (outcome ∙ c.if-leads.true))

pub loop-k-preserved : goal.loop-k-preserved
loop-k-preserved c =
    let wanted : Step → Bool = leads_as_wanted c.args.wanted (cond_in c.args.condition) (row_at c.args.flags.now c.args.arm) in
    let searched : Step = step_at c.args.steps.now c.args.s c.loop-k.k in
    let outcome : wanted (searched) ≡ c.leads.result = let a = c.args in
    let label = c.label_of.ensures in
    let to = c.state_of-to.ensures.value in
    sym (λ i. wanted (record { from = a.s; label = label i; to = to i }))
    ∙ sym (ap (λ b. as_wanted a.wanted (meets (cond_in a.condition) c.label_of.result && b)) c.flag-there.ensures)
    ∙ sym c.leads.ensures in
    let taken = c.loop-k-test.true in
    let later = some-later (wanted) c.args.steps.now c.args.s c.loop-k.k _ taken (outcome ∙ c.if-leads.false) in
    (omega (arith, c.loop-k.invariant.0), c.loop-k.invariant.1, c.loop-k.invariant.2 ∙ later)

pub returns : goal.returns
returns c =
    let wanted : Step → Bool = leads_as_wanted c.args.wanted (cond_in c.args.condition) (row_at c.args.flags.now c.args.arm) in
    sym (c.loop-k.invariant.2 ∙ some-none (wanted) c.args.steps.now c.args.s c.loop-k.k _ c.loop-k-test.false)
