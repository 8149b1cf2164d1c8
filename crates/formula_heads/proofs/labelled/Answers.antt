-- `labelled` reads a set and the end of the bracket.
use mathlib.Core.Path.{sym, subst}
use Rattle.std.specs.Prelude.{Ok}
use Rattle.std.proofs.lemmas.Result.{err_from_is_err_and}
use Rattle.actl.specs.inner.Readers.{names_in}
use Rattle.formulas.specs.declared.node.Condition.TheVariants.{Labels}
use Rattle.formulas.specs.declared.node.Node.TheVariants.{Ex}
use Rattle.formula_heads.specs.inner.Brackets.{RestAnswer, in_bracket, shown_bracket}
use Rattle.formula_heads.specs.declared.Keyword.TheVariants.{Labelled}
use Rattle.formula_heads.proofs.ReadingHeads.{dual_read}
use Rattle.formula_heads.proofs.ReadingBrackets.{labelled-set, labelled_fails}
use Rattle.formula_heads.proofs.labelled.Goals as goal

pub returns-in_err-x : goal.returns-in_err-x
returns-in_err-x c =
    let a = c.args in
    let N = names_in a.source.now.table.now in
    let s = a.source.now.text.now in
    let e = err_from_is_err_and c.from_residual.result c.from_residual.ensures.1 in
    λ i j. rw (e.1, e.2) (labelled_fails N s a.c.at a.lost a.q i j c.in_err-x.ensures)

pub returns : goal.returns
returns c =
    let a = c.args in
    let N = names_in a.source.now.table.now in
    let s = a.source.now.text.now in
    let x = c.in_ok-x.x in
    let w = Labelled a.q in
    λ i j. subst (λ h. RestAnswer N s (in_bracket w i j) (shown_bracket w i j) a.c.at a.lost (Ok h)) (sym c.dual.ensures)
    (dual_read N s a.lost a.q x.end (Ex (Labels x.mask)) (labelled-set N s a.c.at a.lost a.q i j c.in_ok-x.ensures))
