-- `put_label` puts a label's name if the set has the label.
use borrow.Author.Rules.{rules}
use mathlib.Core.Path.{sym, ◌∙◌}
use mathlib.Core.Logic.{inl}
use mathlib.Core.Bool.{true, false}
use native.Mathlib.Omega.{arith}
use borrow.Author.Tests.{not-true, not-false}
use Rattle.formula_pieces.proofs.Laws.Adds.{adds_none}
use Rattle.formula_pieces.proofs.Laws.Sets.{label-put}
use Rattle.formula_pieces.proofs.sets.put_label.Goals as goal

pub in_set-requires : goal.in_set-requires
in_set-requires c =
    inl (omega (arith, c.requires.1, c.requires.0.holds.in_range.few_labels))

pub returns-then-not-in_set : goal.returns-then-not-in_set
returns-then-not-in_set c =
    let a = c.args in
    label-put a.set a.start a.k _ false (sym c.in_set.ensures ∙ c.if-not-in_set.true) (adds_none a.at a.out.now)

pub returns : goal.returns
returns c =
    let a = c.args in
    label-put a.set a.start a.k _ true (sym c.in_set.ensures ∙ c.if-not-in_set.false) c.put_member.ensures
