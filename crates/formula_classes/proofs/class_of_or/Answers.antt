-- `class_of_or` meets its contract: each arm by itself must give class 1.
use mathlib.Core.Path.{sym, ◌∙◌}
use Rattle.actl.specs.inner.Walk.{class_from, class_of_arm}
use Rattle.actl.proofs.Laws.Table.{or-none, or-second}
use Rattle.formula_classes.proofs.class_of_or.Goals as goal

pub returns-then-class_from-eq0 : goal.returns-then-class_from-eq0
unfolding class_from
returns-then-class_from-eq0 c =
    let l = c.args.left in
    let r = c.args.right in
    sym (or-none (class_of_arm l) (class_of_arm r) (sym c.class_from.ensures ∙ c.if-class_from-eq0.true))

pub returns : goal.returns
unfolding class_from
returns c =
    let l = c.args.left in
    let r = c.args.right in
    c.class_from-2.ensures ∙ or-second (class_of_arm l) (class_of_arm r) (λ z. c.if-class_from-eq0.false (c.class_from.ensures ∙ z))
