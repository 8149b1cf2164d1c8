-- `put_counts` meets its contract: the edges' count stands behind that of the states.
use borrow.Author.Rules.{rules}
use Rattle.numbering.proofs.Laws.Whole.{two-counts}
use Rattle.numbering.proofs.put_counts.Goals as goal

pub returns : goal.returns
returns c =
    two-counts c.args.states c.args.edges c.args.out.now _ _ c.requires c.put_pair.ensures c.put_pair-2.ensures
