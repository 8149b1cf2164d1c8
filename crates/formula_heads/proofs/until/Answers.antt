-- `until` reads the first set, and hands over to `first_set`.
use Rattle.actl.specs.inner.Readers.{names_in}
use Rattle.formula_heads.specs.inner.Brackets.{shown_bracket}
use Rattle.formula_heads.specs.declared.Keyword.TheVariants.{Until}
use Rattle.formula_heads.proofs.ReadingHeads.{behind}
use Rattle.formula_heads.proofs.ReadingBrackets.{first-set-moves}
use Rattle.formula_heads.proofs.until.Goals as goal

pub returns : goal.returns
returns c =
    let a = c.args in
    let N = names_in a.source.now.table.now in
    let s = a.source.now.text.now in
    let x = c.in_ok-x.ensures in
    λ i j. behind N s a.lost (shown_bracket Until i j) (first-set-moves i j x) c.first_set.result
    (c.first_set.ensures i j a.c.at a.lost x)
