-- `further` reads prefixes: each turn of its loop takes one, up to a `T` or a `(`.
use Prim.Native.Nat.{◌-◌}
use lib.ListN.{length}
use Rattle.actl.specs.inner.Readers.{names_in}
use Rattle.formula_terms.specs.inner.Prefixes.{PrefixesPassed}
use Rattle.formula_terms.proofs.further.Given as goal

abbrev pub invariant-loop-nodes : goal.invariant-loop-nodes
invariant-loop-nodes l = PrefixesPassed (names_in l.source.table.now) l.source.text.now l.initial.x.end.at l.n l.lost l.initial.nodes l.x.end.at l.x.count l.x.lost l.nodes

abbrev pub decreases-loop-nodes : goal.decreases-loop-nodes
decreases-loop-nodes l = length l.source.text.now - l.x.end.at
