-- `answer` meets its contract: a refusal of the inputs, and else what is laid out.
use borrow.Author.Rules.{rules}
use Rattle.formula_check.proofs.Laws.Inputs.{Both, inputs_prepared, both-held}
use Rattle.smallest.proofs.Laws.Entry.{answered-refused, answered-laid}
use Rattle.smallest.proofs.answer.Goals as goal

pub returns-in_err-check_inputs : goal.returns-in_err-check_inputs
returns-in_err-check_inputs c =
    let a = c.args in
    answered-refused a.table.now a.formula.now a.rows.now a.edges.now a.out.now a.work.now c.check_inputs.ensures c.in_err-check_inputs.was c.from_residual.result c.from_residual.ensures.1

pub beside-requires : goal.beside-requires
beside-requires c =
    let prepared : let a = c.args in Both a.table.now a.formula.now = inputs_prepared _ _ c.check_inputs.ensures c.in_ok-check_inputs.was in
    let held = both-held _ _ (prepared) in record { holds_table = held.0; holds_formula = held.1; smallest_length_in_bounds = c.requires }

pub returns : goal.returns
returns c =
    let prepared : let a = c.args in Both a.table.now a.formula.now = inputs_prepared _ _ c.check_inputs.ensures c.in_ok-check_inputs.was in
    let a = c.args in
    answered-laid a.table.now a.formula.now a.rows.now a.edges.now a.out.now a.work.now (prepared) c.beside.ensures.laid_beside c.beside.ensures.work_kept
