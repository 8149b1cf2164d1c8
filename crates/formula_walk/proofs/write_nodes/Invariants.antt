-- `write_nodes` writes node by node, and all of them give the formula's text.
use Rattle.lts.specs.inner.Prepared.{table_in}
use Rattle.formula_walk.proofs.Laws.Writing.{Writing}
use Rattle.formula_walk.proofs.write_nodes.Given as goal

abbrev pub invariant-loop-k : goal.invariant-loop-k
invariant-loop-k l = Writing (table_in l.table).names l.formula l.initial.out l.count l.out l.pending l.at l.top l.arm l.k
