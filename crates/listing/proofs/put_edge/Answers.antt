-- `put_edge` meets its contract: the row, the label and the target stand one behind the other.
use borrow.Author.Rules.{rules}
use mathlib.Core.Path.{◌∙◌}
use Prim.Native.Nat.{◌+◌, ◌*◌}
use native.Mathlib.Omega.{arith}
use lib.ListN.{length-set}
use Rattle.automaton.specs.Bytes.{edge_length}
use Rattle.listing.specs.inner.Places.{edge_to}
use Rattle.listing.proofs.Laws.Stores.{edge_in_place}
use Rattle.listing.proofs.put_edge.Goals as goal

pub put_pair-requires-2 : goal.put_pair-requires-2
put_pair-requires-2 c =
    simp length-set (omega (arith, c.put_pair.auto.out))

pub shape_of-out : goal.shape_of-out
shape_of-out c =
    let a = c.args in
    c.put_pair-2.auto.out ∙ (length-set c.put_pair.new.out (a.n * edge_length + 2) a.label ∙ c.put_pair.auto.out)

pub returns : goal.returns
returns c =
    let a = c.args in
    edge_in_place a.n (edge_to a.row a.label a.target) a.out.now c.requires.edge_length_in_bounds
    c.put_pair.ensures c.put_pair-2.ensures
