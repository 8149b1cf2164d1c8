-- `in_set` meets its contract: the shifted mask is odd exactly if the label's bit is set.
use mathlib.Core.Path.{sym, ◌∙◌}
use native.Mathlib.Omega.{arith}
use Rattle.lts.proofs.Silence.{carried_heard}
use Rattle.actl.specs.Actions.{in_set}
use Rattle.formulas.proofs.conditions.in_set.Goals as goal

-- The label is heard.
pub overflow_shr-result : goal.overflow_shr-result
overflow_shr-result c =
    omega (arith, carried_heard c.requires (sym c.is_silent.ensures ∙ c.if-is_silent.false))

pub returns-then-is_silent : goal.returns-then-is_silent
unfolding in_set
returns-then-is_silent c =
    rw (sym c.is_silent.ensures ∙ c.if-is_silent.true)

pub returns-else-is_silent : goal.returns-else-is_silent
unfolding in_set
returns-else-is_silent c =
    rw (sym c.is_silent.ensures ∙ c.if-is_silent.false)
