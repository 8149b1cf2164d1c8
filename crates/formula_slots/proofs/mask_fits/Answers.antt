-- `mask_fits` meets its contract: zero is within any labels.
use mathlib.Core.Path.{sym, ap, ◌∙◌}
use mathlib.Core.Bool.{◌&&◌, ◌||◌}
use lib.Dec.{eqb}
use Rattle.actl.specs.Prepared.{mask_within}
use Rattle.actl.proofs.Laws.Checked.{unused_fits}
use Rattle.formula_slots.proofs.mask_fits.Goals as goal

pub returns-then-used : goal.returns-then-used
returns-then-used c =
    let a = c.args in
    c.within.ensures ∙ sym (ap (λ t. (t || eqb a.set 0) && mask_within a.labels a.set) c.if-used.true)

pub returns-else-used : goal.returns-else-used
returns-else-used c =
    let a = c.args in
    unused_fits a.labels a.set ∙ sym (ap (λ t. (t || eqb a.set 0) && mask_within a.labels a.set) c.if-used.false)
