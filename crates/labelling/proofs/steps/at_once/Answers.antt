-- `at_once` meets its contract, by the cases of a node.
use mathlib.Core.Path.{sym, ap, ◌∙◌}
use mathlib.Core.Bool.{Bool, not, ◌||◌}
use Rattle.table_steps.specs.inner.StepArray.{steps_in}
use Rattle.lts.proofs.Booleans.{or-true-left}
use Rattle.actl.specs.Actions.{meets}
use Rattle.formulas.specs.inner.Access.{cond_in}
use Rattle.formulas.specs.declared.node.Node.{Node}
use Rattle.until_search.specs.inner.Flags.{leads_to, at_once}
use Rattle.labelling.specs.inner.Rows.{row_at}
use Rattle.until_search.proofs.Laws.Flags.{every-not-some}
use Rattle.labelling.proofs.steps.at_once.Goals as goal

pub returns-in-True : goal.returns-in-True
returns-in-True c =
    let value : Node → Bool = λ node. at_once node (row_at c.args.flags.now c.args.arm) (row_at c.args.flags.now c.args.other) c.args.s (steps_in c.args.steps.now c.args.firsts.now c.args.s) in
    sym (ap (value) c.in-True.is)

pub returns-in-Not : goal.returns-in-Not
returns-in-Not c =
    let value : Node → Bool = λ node. at_once node (row_at c.args.flags.now c.args.arm) (row_at c.args.flags.now c.args.other) c.args.s (steps_in c.args.steps.now c.args.firsts.now c.args.s) in
    ap not c.flag.ensures ∙ sym (ap (value) c.in-Not.is)

pub returns-then-flag : goal.returns-then-flag
returns-then-flag c =
    let value : Node → Bool = λ node. at_once node (row_at c.args.flags.now c.args.arm) (row_at c.args.flags.now c.args.other) c.args.s (steps_in c.args.steps.now c.args.firsts.now c.args.s) in
    let arm : Bool = row_at c.args.flags.now c.args.arm c.args.s in
    let other : Bool = row_at c.args.flags.now c.args.other c.args.s in
    let either = or-true-left (arm) (other) (sym c.flag-in-Or.ensures ∙ c.if-flag.true) in
    c.if-flag.true ∙ (sym either ∙ sym (ap (value) c.in-Or.is))

pub returns-else-flag : goal.returns-else-flag
returns-else-flag c =
    let value : Node → Bool = λ node. at_once node (row_at c.args.flags.now c.args.arm) (row_at c.args.flags.now c.args.other) c.args.s (steps_in c.args.steps.now c.args.firsts.now c.args.s) in
    let other : Bool = row_at c.args.flags.now c.args.other c.args.s in
    c.flag-else-flag.ensures
    ∙ sym (ap (λ b. b || other) (sym c.flag-in-Or.ensures ∙ c.if-flag.false))
    ∙ sym (ap (value) c.in-Or.is)

pub returns-in-Ex : goal.returns-in-Ex
returns-in-Ex c =
    let value : Node → Bool = λ node. at_once node (row_at c.args.flags.now c.args.arm) (row_at c.args.flags.now c.args.other) c.args.s (steps_in c.args.steps.now c.args.firsts.now c.args.s) in
    c.some_step.ensures ∙ sym (ap (value) c.in-Ex.is)

pub returns-in-Ax : goal.returns-in-Ax
returns-in-Ax c =
    let value : Node → Bool = λ node. at_once node (row_at c.args.flags.now c.args.arm) (row_at c.args.flags.now c.args.other) c.args.s (steps_in c.args.steps.now c.args.firsts.now c.args.s) in
    let steps = steps_in c.args.steps.now c.args.firsts.now c.args.s in
    ap not c.some_step-in-Ax.ensures
    ∙ (every-not-some (leads_to (cond_in c.in-Ax.condition) (row_at c.args.flags.now c.args.arm)) steps
    ∙ sym (ap (value) c.in-Ax.is))

pub returns-in-Until : goal.returns-in-Until
returns-in-Until c =
    let value : Node → Bool = λ node. at_once node (row_at c.args.flags.now c.args.arm) (row_at c.args.flags.now c.args.other) c.args.s (steps_in c.args.steps.now c.args.firsts.now c.args.s) in
    c.flag-in-Until.ensures ∙ sym (ap (value) c.in-Until.is)

pub returns-in-UntilThen : goal.returns-in-UntilThen
unfolding meets
returns-in-UntilThen c =
    let value : Node → Bool = λ node. at_once node (row_at c.args.flags.now c.args.arm) (row_at c.args.flags.now c.args.other) c.args.s (steps_in c.args.steps.now c.args.firsts.now c.args.s) in
    c.some_step-in-UntilThen.ensures ∙ sym (ap (value) c.in-UntilThen.is)
