-- `open` puts its three bytes one behind the other.
use borrow.Author.Rules.{rules}
use Rattle.formula_pieces.proofs.Laws.Adds.{adds_then}
use Rattle.formula_keywords.proofs.open.Goals as goal

pub returns : goal.returns
returns c =
    adds_then (adds_then c.put-one.ensures c.put-two.ensures) c.put.ensures
