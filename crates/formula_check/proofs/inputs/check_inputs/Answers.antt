-- `check_inputs` meets its contract: 14 for each buffer, then 10 for the table and for the formula.
use mathlib.Core.Path.{◌≡◌, sym, ap, ◌∙◌}
use mathlib.Core.Bool.{Bool, true}
use mathlib.Core.List.{List}
use Prim.Native.Nat.{ℕ}
use Rattle.lts.specs.Reply.{Reply, accepted}
use Rattle.lts.specs.Steps.{Table, labels}
use Rattle.lts.specs.inner.Prepared.{table_in, prepared_table}
use Rattle.lts.specs.inner.Answers.{is_some}
use Rattle.lts.proofs.Laws.Prepared.{is-some-of}
use Rattle.actl.specs.Formulas.{Formula}
use Rattle.actl.specs.inner.Prepared.{prepared_formula}
use Rattle.actl.specs.inner.Check.{is_prepared}
use Rattle.formula_check.proofs.Laws.Inputs.{table-short, formula-short, table_foreign, formula_foreign, both-prepared}
use Rattle.formula_check.proofs.inputs.check_inputs.Goals as goal

abbrev next : Table → Formula → Reply (Unit {0})
next t F = accepted tt

-- What the last test finds, over the labels of the table in the bytes.
tested : (table formula : List ℕ) {n : ℕ} {r b : Bool} → n ≡ labels (table_in table) → r ≡ is_prepared n formula → r ≡ b
    → is_some (prepared_formula (labels (table_in table)) formula) ≡ b
tested table formula e d t = sym (ap (λ n. is_prepared n formula) e) ∙ (sym d ∙ t)

pub returns-then-table-lt-TABLE_LENGTH : goal.returns-then-table-lt-TABLE_LENGTH
returns-then-table-lt-TABLE_LENGTH c =
    let a = c.args in sym (table-short a.table.now a.formula.now next c.if-table-lt-TABLE_LENGTH.true)

pub returns-then-formula-lt-FORMULA_LENGTH : goal.returns-then-formula-lt-FORMULA_LENGTH
returns-then-formula-lt-FORMULA_LENGTH c =
    let a = c.args in
    sym (formula-short a.table.now a.formula.now next c.if-table-lt-TABLE_LENGTH.false c.if-formula-lt-FORMULA_LENGTH.true)

pub returns-then-not-is_prepared : goal.returns-then-not-is_prepared
returns-then-not-is_prepared c =
    let a = c.args in
    let foreign = sym c.is_prepared.ensures ∙ c.if-not-is_prepared.true in
    sym (table_foreign a.table.now a.formula.now next c.if-table-lt-TABLE_LENGTH.false c.if-formula-lt-FORMULA_LENGTH.false foreign)

found : (c : goal.Then-not-is_prepared-2) {b : Bool} → (let table : List ℕ = c.args.table.now in let formula : List ℕ = c.args.formula.now in
    c.is_prepared-2.result ≡ b → is_some (prepared_formula (labels (table_in table)) formula) ≡ b)
found c e = let table : List ℕ = c.args.table.now in let formula : List ℕ = c.args.formula.now in tested table formula c.label_count.ensures.count c.is_prepared-2.ensures.value e

pub returns-then-not-is_prepared-2 : goal.returns-then-not-is_prepared-2
returns-then-not-is_prepared-2 c =
    let table : List ℕ = c.args.table.now in
    let formula : List ℕ = c.args.formula.now in
    let known : is_some (prepared_table table) ≡ true = sym c.is_prepared.ensures ∙ c.if-not-is_prepared.false in
    sym (formula_foreign (table) (formula) next c.if-table-lt-TABLE_LENGTH.false c.if-formula-lt-FORMULA_LENGTH.false (known)
    (found c c.if-not-is_prepared-2.true))

found-2 : (c : goal.Else-not-is_prepared-2) {b : Bool} → (let table : List ℕ = c.args.table.now in let formula : List ℕ = c.args.formula.now in
    c.is_prepared-2.result ≡ b → is_some (prepared_formula (labels (table_in table)) formula) ≡ b)
found-2 c e = let table : List ℕ = c.args.table.now in let formula : List ℕ = c.args.formula.now in tested table formula c.label_count.ensures.count c.is_prepared-2.ensures.value e

pub returns : goal.returns
returns c =
    let table : List ℕ = c.args.table.now in
    let formula : List ℕ = c.args.formula.now in
    let known : is_some (prepared_table table) ≡ true = sym c.is_prepared.ensures ∙ c.if-not-is_prepared.false in
    let (F, e) = is-some-of (prepared_formula (labels (table_in (table))) (formula)) (found-2 c c.if-not-is_prepared-2.false) in
    sym (both-prepared (table) (formula) next c.if-table-lt-TABLE_LENGTH.false c.if-formula-lt-FORMULA_LENGTH.false (known) F e)
