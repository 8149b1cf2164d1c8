-- `write_formula` meets its contract: 14 for each buffer, then 10, then the line.
use borrow.Author.Rules.{rules}
use Rattle.std.proofs.lemmas.Result.{err_from_is_err_and}
use Rattle.formula_check.proofs.Laws.Inputs.{inputs_prepared, both-held}
use Rattle.formula_check.specs.declared.inputs.Unprepared.TheVariants.{BufferShort}
use Rattle.write_formula.proofs.Laws.Entry.{refused, short-table, short-formula, short-text, foreign, written}
use Rattle.write_formula.proofs.write_formula.Goals as goal

pub returns-then-table-lt-TABLE_LENGTH : goal.returns-then-table-lt-TABLE_LENGTH
returns-then-table-lt-TABLE_LENGTH c =
    let w = refused _ _ _ (BufferShort _) (short-table _ _ _ c.if-table-lt-TABLE_LENGTH.true) in
    record { result_value = w.0; text_after = w.1.0; restored = w.1.1 }

pub returns-then-formula-lt-FORMULA_LENGTH : goal.returns-then-formula-lt-FORMULA_LENGTH
returns-then-formula-lt-FORMULA_LENGTH c =
    let w = refused _ _ _ (BufferShort _) (short-formula _ _ _ c.if-table-lt-TABLE_LENGTH.false c.if-formula-lt-FORMULA_LENGTH.true) in
    record { result_value = w.0; text_after = w.1.0; restored = w.1.1 }

pub returns-then-text-lt-LONGEST_TEXT : goal.returns-then-text-lt-LONGEST_TEXT
returns-then-text-lt-LONGEST_TEXT c =
    let w = refused _ _ _ (BufferShort _) (short-text _ _ _ c.if-table-lt-TABLE_LENGTH.false c.if-formula-lt-FORMULA_LENGTH.false c.if-text-lt-LONGEST_TEXT.true) in
    record { result_value = w.0; text_after = w.1.0; restored = w.1.1 }

pub returns-in_err-check_inputs : goal.returns-in_err-check_inputs
returns-in_err-check_inputs c =
    let e = err_from_is_err_and c.from_residual.result c.from_residual.ensures.1 in
    let w = refused _ _ _ c.in_err-check_inputs.field-0.0 (foreign _ _ _ c.if-text-lt-LONGEST_TEXT.false c.check_inputs.ensures c.in_err-check_inputs.was) in
    rw (e.1, e.2) (record { result_value = w.0; text_after = w.1.0; restored = w.1.1 })

pub write_prepared-requires : goal.write_prepared-requires
write_prepared-requires c =
    let held = both-held _ _ (inputs_prepared _ _ c.check_inputs.ensures c.in_ok-check_inputs.was) in
    record { holds_table = (held.0, c.if-text-lt-LONGEST_TEXT.false); holds_formula = held.1 }

pub returns : goal.returns
returns c =
    let prepared = inputs_prepared c.args.table.now c.args.formula.now c.check_inputs.ensures c.in_ok-check_inputs.was in
    let w = written _ _ _ c.if-text-lt-LONGEST_TEXT.false _ _ prepared c.write_prepared.ensures in
    record { result_value = w.0; text_after = w.1.0; restored = w.1.1 }
