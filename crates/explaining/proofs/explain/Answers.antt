-- `explain` meets its contract: 14 for a buffer that is too short, and else what `explain_into` answers and leaves.
use native.Mathlib.Omega.{arith}
use Prim.Native.Nat.{◌≤◌, ◌<◌}
use lib.ListN.{length}
use Rattle.actl.specs.Sizes.{formula_length}
use Rattle.lts.specs.Sizes.{table_length}
use Rattle.explaining.proofs.Promised.{promised_refusal, promised_explanation, short-table, short-formula}
use Rattle.explaining.proofs.explain.Goals as goal

pub returns-then-table-lt-TABLE_LENGTH : goal.returns-then-table-lt-TABLE_LENGTH
returns-then-table-lt-TABLE_LENGTH c =
    let a = c.args in
    let short : length a.table.now < table_length = omega arith in
    promised_refusal _ _ _ _ _ _ _
    (short-table a.tabletext.now a.formulatext.now a.table.now a.formula.now a.rows.now a.edges.now short)

pub returns-then-formula-lt-FORMULA_LENGTH : goal.returns-then-formula-lt-FORMULA_LENGTH
returns-then-formula-lt-FORMULA_LENGTH c =
    let a = c.args in
    let long : table_length ≤ length a.table.now = omega arith in
    let short : length a.formula.now < formula_length = omega arith in
    promised_refusal _ _ _ _ _ _ _
    (short-formula a.tabletext.now a.formulatext.now a.table.now a.formula.now a.rows.now a.edges.now long short)

pub returns : goal.returns
returns c =
    let long : table_length ≤ length c.args.table.now = omega (arith, c.if-table-lt-TABLE_LENGTH.false) in
    let wide : formula_length ≤ length c.args.formula.now = omega (arith, c.if-formula-lt-FORMULA_LENGTH.false) in
    let a = c.args in
    promised_explanation a.tabletext.now a.formulatext.now a.table.now a.formula.now a.rows.now a.edges.now (long) (wide)
    c.explain_into.result _ _ _ _ c.explain_into.ensures
