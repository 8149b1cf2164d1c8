-- `label_nodes` meets its contract: the rows of the nodes from k on are labelled.
use Rattle.labelling.specs.inner.Nodes.{RowsFrom}
use Rattle.labelling.proofs.nodes.label_nodes.Given as goal

abbrev pub invariant-loop-k : goal.invariant-loop-k
invariant-loop-k l = RowsFrom l.table l.formula l.k l.flags
