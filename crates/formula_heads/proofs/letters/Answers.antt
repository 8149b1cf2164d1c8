-- `letters` reads the second and the third letter of DIA or BOX, and the bracket.
use mathlib.Core.Path.{subst}
use lib.ListN.{get_or}
use Rattle.actl.specs.inner.Cursor.{Marked}
use Rattle.actl.specs.inner.Readers.{names_in}
use Rattle.formula_cursor.specs.inner.CursorReplies.{MarkAnswer}
use Rattle.formula_heads.proofs.ReadingHeads.{letters-read}
use Rattle.formula_heads.proofs.letters.Goals as goal

pub returns : goal.returns
returns c =
    let a = c.args in
    let N = names_in a.source.now.table.now in
    let s = a.source.now.text.now in
    let d = c.in_ok-d.d.at in
    let e = c.in_ok-e.e.at in
    let m = subst (MarkAnswer s a.c.at (get_or a.rest.now 0 0)) c.in_ok-d.ensures.ok_part c.mark.ensures in
    let n = subst (MarkAnswer s d (get_or a.rest.now 1 0)) c.in_ok-e.ensures.ok_part c.mark-2.ensures in
    letters-read N s a.c.at a.lost a.q
    (subst (λ b. Marked s a.c.at b d) c.requires.rest_value.0 m) (subst (λ b. Marked s d b e) c.requires.rest_value.1 n)
    c.square_bracket.result c.square_bracket.ensures
