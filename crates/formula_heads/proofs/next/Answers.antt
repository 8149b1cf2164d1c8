-- `next` reads a dot or a set, and the end of the bracket.
use mathlib.Core.Path.{subst}
use Rattle.std.proofs.lemmas.Result.{err_from_is_err_and}
use Rattle.actl.specs.inner.Readers.{names_in}
use Rattle.formula_cursor.specs.inner.CursorReplies.{MarkAnswer}
use Rattle.formula_heads.proofs.ReadingBrackets.{next-silent, next-silent_open, next-set, next-set_fails}
use Rattle.formula_heads.proofs.Refusals.{missed}
use Rattle.formula_heads.proofs.next.Goals as goal

pub returns-in_err-end : goal.returns-in_err-end
returns-in_err-end c =
    let a = c.args in
    let N = names_in a.source.now.table.now in
    let s = a.source.now.text.now in
    let m = missed c.mark.result c.in-Some.d c.in_err-end.field-0.0 c.in_err-end.ensures.value in
    let unshut = subst (MarkAnswer s c.in-Some.d.at 93) m.0 c.mark.ensures in
    let e = err_from_is_err_and c.from_residual.result c.from_residual.ensures.1 in
    λ i j. rw (e.1, e.2, ← m.1) (next-silent_open N s a.c.at a.lost a.q i j c.in-Some.ensures unshut)

pub returns-in-Some : goal.returns-in-Some
returns-in-Some c =
    let a = c.args in
    let N = names_in a.source.now.table.now in
    let s = a.source.now.text.now in
    let end = subst (MarkAnswer s c.in-Some.d.at 93) c.in_ok-end.ensures.ok_part c.mark.ensures in
    λ i j. next-silent N s a.c.at a.lost a.q i j c.in-Some.ensures c.next_node.result c.next_node.ensures end

pub returns-in_err-x : goal.returns-in_err-x
returns-in_err-x c =
    let a = c.args in
    let N = names_in a.source.now.table.now in
    let s = a.source.now.text.now in
    let e = err_from_is_err_and c.from_residual-in_err-x.result c.from_residual-in_err-x.ensures.1 in
    λ i j. rw (e.1, e.2) (next-set_fails N s a.c.at a.lost a.q i j c.requires.token c.in_default.ensures c.in_err-x.ensures)

pub returns : goal.returns
returns c =
    let a = c.args in
    let N = names_in a.source.now.table.now in
    let s = a.source.now.text.now in
    let n = c.next_node-2 in
    λ i j. next-set N s a.c.at a.lost a.q i j c.requires.token c.in_default.ensures n.result n.ensures c.in_ok-x.ensures
