-- `enclosed` reads a set and the mark that ends its bracket.
use Rattle.actl.specs.inner.Readers.{names_in}
use Rattle.formula_sets.proofs.enclosed.Goals as goal

pub returns : goal.returns
returns c =
    let a = c.args in
    c.closed.ensures (names_in a.source.now.table.now) a.c.at a.lost c.in_ok-set.ensures
