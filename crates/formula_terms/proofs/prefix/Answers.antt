-- `prefix` reads `~` or a keyword, and puts its nodes down.
use Rattle.formula_terms.proofs.ReadingTerms.{prefix_not}
use Rattle.formula_terms.proofs.prefix.Goals as goal

pub returns-in-Some : goal.returns-in-Some
returns-in-Some c = prefix_not c.in-Some.ensures c.put.ensures

pub keyword-requires : goal.keyword-requires
keyword-requires c =
    let h = c.requires.2 in
    (c.requires.0, c.requires.1, record { no_true = h.no_true; no_not = c.in_default.ensures; no_paren = h.no_paren })
