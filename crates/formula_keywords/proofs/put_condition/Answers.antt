-- `put_condition` puts `.` for the silent step, and else the set.
use borrow.Author.Rules.{rules}
use mathlib.Core.Path.{ap, subst}
use Rattle.lts.specs.Steps.{labels}
use Rattle.lts.specs.inner.Prepared.{table_in}
use Rattle.written_back.specs.FormulaText.{cond_text}
use Rattle.formulas.specs.inner.Access.{cond_in}
use Rattle.formula_pieces.specs.inner.Adds.{CondWithin}
use Rattle.formula_pieces.proofs.Laws.Adds.{adds_same}
use Rattle.formula_keywords.proofs.put_condition.Goals as goal

pub put_set-requires : goal.put_set-requires
put_set-requires c =
    (c.requires.0, subst (λ k. CondWithin (labels (table_in c.args.table.now)) (cond_in k)) c.in-Labels.is c.requires.1)

pub returns-in-Silent : goal.returns-in-Silent
returns-in-Silent c =
    let N = (table_in c.args.table.now).names in
    adds_same (ap (λ k. cond_text N (cond_in k)) c.in-Silent.is) c.put.ensures

pub returns-in-Labels : goal.returns-in-Labels
returns-in-Labels c =
    let N = (table_in c.args.table.now).names in
    adds_same (ap (λ k. cond_text N (cond_in k)) c.in-Labels.is) c.put_set.ensures
