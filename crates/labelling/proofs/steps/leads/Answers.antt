-- `leads` meets its contract.
use Rattle.until_search.proofs.Laws.Flags.{same-there, same-nowhere}
use Rattle.actl.specs.Actions.{meets}
use Rattle.formulas.specs.inner.Access.{cond_in}
use Rattle.labelling.proofs.steps.leads.Goals as goal

pub returns-then-there : goal.returns-then-there
returns-then-there c =
    same-there _ _ _ _ c.meets.ensures c.if-there.true

pub returns-else-there : goal.returns-else-there
returns-else-there c =
    let a = c.args in same-nowhere a.wanted (meets (cond_in a.condition) a.label) a.there c.if-there.false
