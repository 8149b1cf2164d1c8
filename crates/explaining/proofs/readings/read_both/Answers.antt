-- `read_both` meets its contract: the refusal of the first reading that refused, and else the bytes of what both read.
use Rattle.std.proofs.lemmas.Result.{err_from_is_err_and}
use native.Mathlib.Omega.{arith}
use Rattle.lts.proofs.Laws.Prepared.{prepared-holds}
use Rattle.explaining.proofs.Answers.{refused-number}
use Rattle.explaining.proofs.BothTexts.{TableRead, table-refused, table-read, formula-refused, formula-read, both-table-refused, both-formula-refused, both_read}
use Rattle.explaining.proofs.readings.read_both.Goals as goal
use Rattle.explaining.proofs.readings.read_both.Goals.{In_ok-accepted}

pub returns-in_err-accepted : goal.returns-in_err-accepted
returns-in_err-accepted c =
    let told = c.read_table in
    let a = c.args in
    let refused = c.in_err-accepted.ensures in
    let p = err_from_is_err_and c.from_residual.result c.from_residual.ensures.1 in
    record {
      both = rw (p.1, p.2) (both-table-refused a.tabletext.now a.formulatext.now refused.1
          (table-refused a.tabletext.now a.table.now c.requires.0 told.result told.ensures.result_value c.table_answer.ensures refused.0) _ _);
      refused = rw (p.1, p.2) (refused-number refused.1 refused.0);
    }

held : (c : In_ok-accepted) → TableRead c.args.tabletext.now c.read_table.new.table
held c =
    let told = c.read_table in
    let a = c.args in
    table-read a.tabletext.now a.table.now told.result told.new.table told.ensures.result_value told.ensures.table_after
    c.table_answer.ensures c.in_ok-accepted.ensures.0 c.requires.0

pub read_text_over-requires : goal.read_text_over-requires
read_text_over-requires c =
    let x = held (goal.at.read_text_over-requires c).In_ok-accepted in
    (prepared-holds _ x.table x.held, omega (arith, c.requires.1))

pub returns-in_err-accepted-2 : goal.returns-in_err-accepted-2
returns-in_err-accepted-2 c =
    let told = c.read_text_over in
    let a = c.args in
    let x = held (goal.at.returns-in_err-accepted-2 c).In_ok-accepted in
    let refused = c.in_err-accepted-2.ensures in
    let p = err_from_is_err_and c.from_residual-in_err-accepted-2.result c.from_residual-in_err-accepted-2.ensures.1 in
    record {
      both = rw (p.1, p.2) (both-formula-refused a.tabletext.now a.formulatext.now x.table x.read refused.1
          (formula-refused c.read_table.new.table a.formulatext.now a.formula.now c.requires.1 x.table x.held
          told.result _ told.ensures c.formula_answer.ensures refused.0) _ _);
      refused = rw (p.1, p.2) (refused-number refused.1 refused.0);
    }

pub returns : goal.returns
returns c =
    let told = c.read_text_over in
    let a = c.args in
    let x = held (goal.at.returns c).In_ok-accepted in
    let y = formula-read c.read_table.new.table a.formulatext.now a.formula.now c.requires.1 x.table x.held
    told.result told.new.formula told.ensures c.formula_answer.ensures c.in_ok-accepted-2.ensures.0 in
    record { both = both_read a.tabletext.now a.formulatext.now x.table x.read y.formula y.read _ _ x.bytes y.bytes; refused = tt }
