-- `build` meets its contract: a refusal of the inputs, and else what the listing and the lent places say.
use Rattle.formula_check.proofs.Laws.Inputs.{Both, inputs_prepared, both-held}
use Rattle.building.proofs.Laws.Entries.{refused_inputs, promised}
use Rattle.building.proofs.build.Goals as goal

pub returns-in_err-check_inputs : goal.returns-in_err-check_inputs
returns-in_err-check_inputs c =
    let a = c.args in
    let w = refused_inputs a.table.now a.formula.now a.rows.now a.edges.now c.check_inputs.ensures c.in_err-check_inputs.was c.from_residual.result c.from_residual.ensures.1 in
    record { result_value = w.0; rows_after = w.1.0; edges_after = w.1.1.0; from_prepared = w.1.1.1 }

pub built-requires : goal.built-requires
built-requires c =
    let held = both-held _ _ (inputs_prepared _ _ c.check_inputs.ensures c.in_ok-check_inputs.was) in
    record { holds_table = held.0; holds_formula = held.1 }

pub returns : goal.returns
returns c =
    let a = c.args in
    let b : Both a.table.now a.formula.now = inputs_prepared _ _ c.check_inputs.ensures c.in_ok-check_inputs.was in
    let w = promised a.table.now a.formula.now a.rows.now a.edges.now b b.formula_in b.prepared (c.built.ensures b.formula_in b.prepared) in
    record { result_value = w.0; rows_after = w.1.0; edges_after = w.1.1.0; from_prepared = w.1.1.1 }
