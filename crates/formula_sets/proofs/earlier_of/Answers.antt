-- `earlier_of` keeps the first offset.
use Rattle.actl.proofs.ReadingLabels.{earlier-first, earlier-kept}
use Rattle.formula_sets.proofs.earlier_of.Goals as goal

pub returns-then-lost-eq0 : goal.returns-then-lost-eq0
returns-then-lost-eq0 c =
    earlier-first c.args.lost c.args.at c.if-lost-eq0.true

pub returns-else-lost-eq0 : goal.returns-else-lost-eq0
returns-else-lost-eq0 c =
    earlier-kept c.args.lost _ c.if-lost-eq0.false
