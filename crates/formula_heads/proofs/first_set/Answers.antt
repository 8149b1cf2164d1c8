-- `first_set` reads what stands behind the first set of EU.
use mathlib.Core.Path.{subst}
use Rattle.std.proofs.lemmas.Result.{err_from_is_err_and}
use Rattle.actl.specs.inner.Readers.{names_in}
use Rattle.formula_cursor.specs.inner.CursorReplies.{MarkAnswer}
use Rattle.formula_heads.proofs.ReadingBrackets.{until-read, then-read, then_fails}
use Rattle.formula_heads.proofs.first_set.Goals as goal

pub returns-in_default : goal.returns-in_default
returns-in_default c =
    let a = c.args in
    let N = names_in a.source.now.table.now in
    let s = a.source.now.text.now in
    let end = subst (MarkAnswer s a.c.at 93) c.in_ok-end.ensures.ok_part c.mark.ensures in
    λ i j from lost x. until-read N s a.c.at a.first a.lost i j from lost x end

pub returns-in_err-x : goal.returns-in_err-x
returns-in_err-x c =
    let a = c.args in
    let N = names_in a.source.now.table.now in
    let s = a.source.now.text.now in
    let e = err_from_is_err_and c.from_residual-in_err-x.result c.from_residual-in_err-x.ensures.1 in
    λ i j from lost x. rw (e.1, e.2) (then_fails N s a.c.at a.first a.lost i j from lost x c.in-Some.ensures c.in_err-x.ensures)

pub returns : goal.returns
returns c =
    let a = c.args in
    let N = names_in a.source.now.table.now in
    let s = a.source.now.text.now in
    λ i j from lost x. then-read N s a.c.at a.first a.lost i j from lost x c.in-Some.ensures c.in_ok-x.ensures
