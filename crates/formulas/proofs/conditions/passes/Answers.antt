-- `passes` meets its contract: a silent step passes, and so does one with a label of the set.
use mathlib.Core.Path.{sym, ◌∙◌}
use Rattle.actl.specs.Actions.{passes}
use Rattle.formulas.proofs.conditions.passes.Goals as goal

pub returns-then-is_silent : goal.returns-then-is_silent
unfolding passes
returns-then-is_silent c =
    rw (sym c.is_silent.ensures ∙ c.if-is_silent.true)

pub returns-else-is_silent : goal.returns-else-is_silent
unfolding passes
returns-else-is_silent c =
    rw (sym c.is_silent.ensures ∙ c.if-is_silent.false) c.in_set.ensures
