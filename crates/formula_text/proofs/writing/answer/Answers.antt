-- `answer` refuses 7, 8 and 9 in this order, and else leaves the prepared bytes.
use mathlib.Core.Path.{sym, ap, ◌∙◌}
use Rattle.formula_classes.specs.inner.WalkReplies.{classless_node}
use Rattle.formula_text.proofs.ReadingAnswers.{kinds_are, answer_unknown, answer-many, answer_classless, answer-accepted}
use Rattle.formula_text.proofs.writing.answer.Goals as goal

pub returns-then-lost-ne0 : goal.returns-then-lost-ne0
returns-then-lost-ne0 c =
    let a = c.args in
    λ F o h. answer_unknown a.nodes.now a.n a.lost a.formula.now F o h c.if-lost-ne0.true

pub returns-then-n-gt-NODES : goal.returns-then-n-gt-NODES
returns-then-n-gt-NODES c =
    let a = c.args in
    λ F o h. answer-many a.nodes.now a.n a.lost a.formula.now F c.if-lost-ne0.false o h c.if-n-gt-NODES.true

pub returns-in-Some : goal.returns-in-Some
returns-in-Some c =
    let a = c.args in
    let b = a.nodes.now in
    λ F o h.
    let kinds = sym (kinds_are b a.n F h.count (h.made c.if-n-gt-NODES.false) c.if-n-gt-NODES.false) in
    answer_classless b a.n a.lost a.formula.now F c.if-lost-ne0.false o h c.if-n-gt-NODES.false _ (c.in-Some.ensures F kinds)

pub returns : goal.returns
returns c =
    let a = c.args in
    let b = a.nodes.now in
    λ F o h.
    let kinds = sym (kinds_are b a.n F h.count (h.made c.if-n-gt-NODES.false) c.if-n-gt-NODES.false) in
    answer-accepted b a.n a.lost a.formula.now F c.if-lost-ne0.false o h c.if-n-gt-NODES.false _ (c.in_default.ensures F kinds)
    c.write_bytes.ensures
