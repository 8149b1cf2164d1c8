-- `kept::apart` meets its contract: numbers whose bits differ nowhere are equal.
use Rattle.kept_sets.proofs.Laws.Words.{both_zero, equal_zero}
use Rattle.kept_sets.proofs.kept.apart.Goals as goal

pub returns : goal.returns
returns c =
    let a = c.args in record { other_value = both_zero a.other a.a a.b; value = equal_zero a.other a.a a.b }
