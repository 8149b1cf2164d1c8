-- `start_state` meets its contract.
use Rattle.lts.specs.inner.Prepared.{table_in}
use borrow.Author.Rules.{rules}
use Rattle.tables.proofs.prepared.start_state.Goals as goal

pub returns : goal.returns
unfolding table_in
returns c =
    search rules
