-- `square_bracket` opens the bracket behind a keyword, and reads what stands in it.
use mathlib.Core.Path.{sym, subst}
use Rattle.std.proofs.lemmas.Result.{err_from_is_err_and}
use Rattle.actl.specs.inner.Readers.{names_in}
use Rattle.formula_cursor.specs.inner.CursorReplies.{TokenAnswer}
use Rattle.formula_heads.specs.inner.Brackets.{ContentsAnswer}
use Rattle.formula_heads.proofs.ReadingHeads.{unopened, opened}
use Rattle.formula_heads.proofs.Refusals.{missed}
use Rattle.formula_heads.proofs.square_bracket.Goals as goal

pub returns-in_err-d : goal.returns-in_err-d
returns-in_err-d c =
    let a = c.args in
    let N = names_in a.source.now.table.now in
    let s = a.source.now.text.now in
    let m = missed c.token.result c.skip_blanks-o.result c.in_err-d.field-0.0 c.in_err-d.ensures.value in
    let none = subst (TokenAnswer s c.skip_blanks-o.result.at 91) m.0 c.token.ensures in
    let e = err_from_is_err_and c.from_residual.result c.from_residual.ensures.1 in
    rw (e.1, e.2, ← m.1) (unopened N s a.lost a.word c.skip_blanks-o.ensures none)

pub returns-in-Next : goal.returns-in-Next
returns-in-Next c =
    let a = c.args in
    let N = names_in a.source.now.table.now in
    let s = a.source.now.text.now in
    let t = subst (TokenAnswer s c.skip_blanks-o.result.at 91) c.in_ok-d.ensures.ok_part c.token.ensures in
    opened N s a.lost a.word c.skip_blanks-o.ensures t c.next.result
    (subst (λ w. ContentsAnswer w N s c.in_ok-d.d.at a.lost c.next.result) (sym c.in-Next.is) c.next.ensures)

pub returns-in-Until : goal.returns-in-Until
returns-in-Until c =
    let a = c.args in
    let N = names_in a.source.now.table.now in
    let s = a.source.now.text.now in
    let t = subst (TokenAnswer s c.skip_blanks-o.result.at 91) c.in_ok-d.ensures.ok_part c.token.ensures in
    opened N s a.lost a.word c.skip_blanks-o.ensures t c.until.result
    (subst (λ w. ContentsAnswer w N s c.in_ok-d.d.at a.lost c.until.result) (sym c.in-Until.is) c.until.ensures)

pub returns-in-Labelled : goal.returns-in-Labelled
returns-in-Labelled c =
    let a = c.args in
    let N = names_in a.source.now.table.now in
    let s = a.source.now.text.now in
    let t = subst (TokenAnswer s c.skip_blanks-o.result.at 91) c.in_ok-d.ensures.ok_part c.token.ensures in
    opened N s a.lost a.word c.skip_blanks-o.ensures t c.labelled.result
    (subst (λ w. ContentsAnswer w N s c.in_ok-d.d.at a.lost c.labelled.result) (sym c.in-Labelled.is) c.labelled.ensures)
