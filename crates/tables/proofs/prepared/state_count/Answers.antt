-- `state_count` meets its contract.
use Rattle.lts.specs.inner.Prepared.{table_in}
use Rattle.tables.proofs.prepared.state_count.Goals as goal

pub returns : goal.returns
unfolding table_in
returns c =
    c.two_bytes.ensures
