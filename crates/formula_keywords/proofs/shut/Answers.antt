-- `shut` puts its two bytes one behind the other.
use borrow.Author.Rules.{rules}
use Rattle.formula_pieces.proofs.Laws.Adds.{adds_then}
use Rattle.formula_keywords.proofs.shut.Goals as goal

pub returns : goal.returns
returns c =
    adds_then c.put-end.ensures c.put.ensures
