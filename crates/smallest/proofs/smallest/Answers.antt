-- `smallest` meets its contract: 14 for each buffer, and else what is answered, with the work buffer cleared.
use borrow.Author.Rules.{rules}
use native.Mathlib.Omega.{arith}
use Rattle.smallest.proofs.Laws.Entry.{short, short-table, short-formula, short_out, short-work, answered}
use Rattle.smallest.proofs.smallest.Goals as goal

pub returns-then-table-lt-TABLE_LENGTH : goal.returns-then-table-lt-TABLE_LENGTH
returns-then-table-lt-TABLE_LENGTH c =
    let w = short _ _ _ _ _ _ _ (short-table _ _ _ _ _ _ c.if-table-lt-TABLE_LENGTH.true) in
    record { result_value = w.0; rows_after = w.1.0; edges_after = w.1.1.0; out_after = w.1.1.1.0; work_after = w.1.1.1.1.0; from_prepared = w.1.1.1.1.1.0; smallest_answered = w.1.1.1.1.1.1 }

pub returns-then-formula-lt-FORMULA_LENGTH : goal.returns-then-formula-lt-FORMULA_LENGTH
returns-then-formula-lt-FORMULA_LENGTH c =
    let w = short _ _ _ _ _ _ _ (short-formula _ _ _ _ _ _ c.if-table-lt-TABLE_LENGTH.false c.if-formula-lt-FORMULA_LENGTH.true) in
    record { result_value = w.0; rows_after = w.1.0; edges_after = w.1.1.0; out_after = w.1.1.1.0; work_after = w.1.1.1.1.0; from_prepared = w.1.1.1.1.1.0; smallest_answered = w.1.1.1.1.1.1 }

pub returns-then-out-lt-SMALLEST_LENGTH : goal.returns-then-out-lt-SMALLEST_LENGTH
returns-then-out-lt-SMALLEST_LENGTH c =
    let w = short _ _ _ _ _ _ _ (short_out _ _ _ _ _ _ c.if-table-lt-TABLE_LENGTH.false c.if-formula-lt-FORMULA_LENGTH.false c.if-out-lt-SMALLEST_LENGTH.true) in
    record { result_value = w.0; rows_after = w.1.0; edges_after = w.1.1.0; out_after = w.1.1.1.0; work_after = w.1.1.1.1.0; from_prepared = w.1.1.1.1.1.0; smallest_answered = w.1.1.1.1.1.1 }

pub returns-then-work-lt-WORK_LENGTH : goal.returns-then-work-lt-WORK_LENGTH
returns-then-work-lt-WORK_LENGTH c =
    let w = short _ _ _ _ _ _ _ (short-work _ _ _ _ _ _ c.if-table-lt-TABLE_LENGTH.false c.if-formula-lt-FORMULA_LENGTH.false c.if-out-lt-SMALLEST_LENGTH.false c.if-work-lt-WORK_LENGTH.true) in
    record { result_value = w.0; rows_after = w.1.0; edges_after = w.1.1.0; out_after = w.1.1.1.0; work_after = w.1.1.1.1.0; from_prepared = w.1.1.1.1.1.0; smallest_answered = w.1.1.1.1.1.1 }

pub answer-reply-requires : goal.answer-reply-requires
answer-reply-requires c =
    (c.if-out-lt-SMALLEST_LENGTH.false, c.if-work-lt-WORK_LENGTH.false)

pub clear-requires : goal.clear-requires
clear-requires c =
    omega (arith, c.answer-reply.ensures.kept.long, c.if-work-lt-WORK_LENGTH.false)

pub returns : goal.returns
returns c =
    let w = answered _ _ _ _ _ _ c.if-table-lt-TABLE_LENGTH.false c.if-formula-lt-FORMULA_LENGTH.false c.if-out-lt-SMALLEST_LENGTH.false
    c.if-work-lt-WORK_LENGTH.false c.answer-reply.ensures c.clear.ensures in
    record { result_value = w.0; rows_after = w.1.0; edges_after = w.1.1.0; out_after = w.1.1.1.0; work_after = w.1.1.1.1.0; from_prepared = w.1.1.1.1.1.0; smallest_answered = w.1.1.1.1.1.1 }
