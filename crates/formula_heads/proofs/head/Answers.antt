-- `head` reads a keyword and its bracket.
use Rattle.actl.specs.inner.Readers.{names_in}
use Rattle.formula_heads.proofs.ReadingHeads.{head-next}
use Rattle.formula_heads.proofs.head.Goals as goal

pub returns-in-Some : goal.returns-in-Some
returns-in-Some c =
    let a = c.args in
    let N = names_in a.source.now.table.now in
    let s = a.source.now.text.now in
    head-next N s a.c.at a.lost c.in-Some.q c.in-Some.ensures c.square_bracket.result c.square_bracket.ensures
