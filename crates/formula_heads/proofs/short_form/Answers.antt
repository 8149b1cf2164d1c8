-- `short_form` reads EF or AG, and else DIA or BOX.
use mathlib.Core.Path.{sym, subst}
use Rattle.std.specs.Prelude.{Ok}
use Rattle.actl.specs.inner.Readers.{names_in}
use Rattle.formula_heads.specs.inner.HeadReplies.{HeadAnswer}
use Rattle.formula_heads.proofs.ReadingHeads.{head-reach}
use Rattle.formula_heads.proofs.short_form.Goals as goal

pub returns-in-Some : goal.returns-in-Some
returns-in-Some c =
    let a = c.args in
    let N = names_in a.source.now.table.now in
    let s = a.source.now.text.now in
    let all = c.all_labels in
    subst (λ h. HeadAnswer N s a.c.at a.lost (Ok h)) (sym c.dual.ensures)
    (head-reach N s a.c.at a.lost c.in-Some.q c.in-Some.d all.result all.ensures c.in-Some.ensures)
