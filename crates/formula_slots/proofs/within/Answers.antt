-- `within` meets its contract: an even mask with no bit above the labels.
use mathlib.Core.Path.{sym, ◌∙◌}
use borrow.Author.Tests.{le-leb}
use Rattle.actl.proofs.Laws.Checked.{all-within, shifted_within}
use Rattle.formula_slots.proofs.within.Goals as goal

pub returns-then-labels-ge63 : goal.returns-then-labels-ge63
returns-then-labels-ge63 c =
    le-leb 63 c.args.labels c.if-labels-ge63.true ∙ sym (all-within c.args.labels c.args.set c.if-set-eq0.true c.ranges.set.fits c.if-labels-ge63.true)

pub returns-else-labels-ge63 : goal.returns-else-labels-ge63
returns-else-labels-ge63 c = shifted_within c.args.labels c.args.set c.if-set-eq0.true
