-- `read_formula` meets its contract: each answer is the one that the definitions give, and so is every byte of the lent buffer.
use mathlib.Core.Path.{◌≡◌, sym, ◌∙◌}
use mathlib.Core.Bool.{true}
use mathlib.Core.List.{List}
use Prim.Native.Nat.{ℕ}
use Rattle.lts.specs.inner.Answers.{is_some}
use Rattle.lts.specs.inner.Prepared.{prepared_table}
use Rattle.actl.specs.FormulaReading.{formula_reading, formula_replied, formula_left}
use Rattle.actl.specs.ByGrammar.{FormulaByGrammar}
use Rattle.actl.proofs.Laws.ByGrammar.{formula_by_grammar}
use Rattle.formula_text.specs.Replies.{formula_reply}
use Rattle.formula_text.specs.inner.FormulaAnswers.{FormulaAnswered}
use Rattle.formula_text.specs.declared.FormulaRefusal.{FormulaRefusal}
use Rattle.std.proofs.Common.{Result}
use Rattle.formula_text.proofs.ReadingEntry.{short-table, short-formula, foreign_table, on-prepared}
use Rattle.lts.proofs.Laws.Prepared.{found-holds}
use Rattle.formula_text.proofs.read_formula.Goals as goal

-- The reply and the bytes, by the definitions and by the grammar.
both : {b s e : List ℕ} {r : Result (Unit {0}) FormulaRefusal} {x : List ℕ} → FormulaAnswered (formula_reading b s e) e r x
    → (formula_reply r ≡ formula_replied b s e) × ((x ≡ formula_left b s e) × FormulaByGrammar b s e (formula_reply r) x)
both {b} {s} {e} h = (h.replies, (h.leaves, formula_by_grammar b s e h.replies h.leaves))

pub returns-then-table-lt-TABLE_LENGTH : goal.returns-then-table-lt-TABLE_LENGTH
returns-then-table-lt-TABLE_LENGTH c =
    let a = c.args in let w = both (short-table a.table.now a.text.now a.formula.now c.if-table-lt-TABLE_LENGTH.true) in
    record { result_value = w.0; formula_after = w.1.0; formula_by_grammar = w.1.1 }

pub returns-then-formula-lt-FORMULA_LENGTH : goal.returns-then-formula-lt-FORMULA_LENGTH
returns-then-formula-lt-FORMULA_LENGTH c =
    let a = c.args in let w = both (short-formula a.table.now a.text.now a.formula.now c.if-table-lt-TABLE_LENGTH.false c.if-formula-lt-FORMULA_LENGTH.true) in
    record { result_value = w.0; formula_after = w.1.0; formula_by_grammar = w.1.1 }

pub returns-then-not-is_prepared : goal.returns-then-not-is_prepared
returns-then-not-is_prepared c =
    let a = c.args in
    let foreign = sym c.is_prepared.ensures ∙ c.if-not-is_prepared.true in
    let w = both (foreign_table a.table.now a.text.now a.formula.now c.if-table-lt-TABLE_LENGTH.false c.if-formula-lt-FORMULA_LENGTH.false foreign) in
    record { result_value = w.0; formula_after = w.1.0; formula_by_grammar = w.1.1 }

pub read_text_over-requires : goal.read_text_over-requires
read_text_over-requires c =
    let prepared : is_some (prepared_table c.args.table.now) ≡ true = sym c.is_prepared.ensures ∙ c.if-not-is_prepared.false in
    (found-holds c.args.table.now (prepared), c.if-formula-lt-FORMULA_LENGTH.false)

pub returns : goal.returns
returns c =
    let prepared : is_some (prepared_table c.args.table.now) ≡ true = sym c.is_prepared.ensures ∙ c.if-not-is_prepared.false in
    let a = c.args in let w = both (on-prepared a.table.now a.text.now a.formula.now c.if-table-lt-TABLE_LENGTH.false c.if-formula-lt-FORMULA_LENGTH.false (prepared)
    c.read_text_over.ensures) in
    record { result_value = w.0; formula_after = w.1.0; formula_by_grammar = w.1.1 }
