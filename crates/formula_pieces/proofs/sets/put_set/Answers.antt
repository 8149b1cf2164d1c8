-- `put_set` tells all labels and none apart from the others by the mask.
use borrow.Author.Rules.{rules}
use mathlib.Core.Path.{sym, ◌∙◌}
use Rattle.formula_pieces.proofs.Laws.Adds.{adds_then, adds_same}
use Rattle.formula_pieces.proofs.Laws.Masks.{set_all, set-none, set-some}
use Rattle.formula_pieces.proofs.sets.put_set.Goals as goal

pub returns-then-set-all_labels : goal.returns-then-set-all_labels
returns-then-set-all_labels c =
    adds_same (set_all _ c.requires.0.holds _ c.requires.1 (c.if-set-all_labels.true ∙ c.all_labels.ensures)) c.put.ensures

pub returns-then-set-eq0 : goal.returns-then-set-eq0
returns-then-set-eq0 c =
    adds_same (set-none _ c.requires.0.holds _ c.requires.1 (λ d. c.if-set-all_labels.false (d ∙ sym c.all_labels.ensures)) c.if-set-eq0.true)
    (adds_then c.put-end.ensures c.put-then-set-eq0.ensures)

pub returns : goal.returns
returns c =
    adds_same (set-some _ c.requires.0.holds _ c.requires.1 (λ d. c.if-set-all_labels.false (d ∙ sym c.all_labels.ensures)) c.if-set-eq0.false)
    c.put_members.ensures
