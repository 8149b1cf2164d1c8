-- What every entry over prepared bytes tests first; what `read_formula` answers and leaves.
use Rattle.std.specs.Prelude.{List, ℕ, leb, length}
use Rattle.std.proofs.Math.Option.{Option, none, some}
use Rattle.actl.specs.Sizes.{formula_length}
use Rattle.lts.specs.Sizes.{table_length}
use Rattle.lts.specs.Reply.{Reply, refusal, unless, left_in, answers}
use Rattle.lts.specs.Steps.{Table, labels}
use Rattle.lts.specs.Prepared.{with_table}
use Rattle.lts.specs.inner.Prepared.{prepared_table}
use Rattle.actl.specs.Formulas.{Formula}
use Rattle.actl.specs.inner.Reading.{read_formula}
use Rattle.actl.specs.Prepared.{formula_bytes}
use Rattle.actl.specs.inner.Prepared.{prepared_formula}

-- 01: "Order: 14 first, then 10 (table before formula)." Prepared bytes are lent in docs/FORMATS.md's order.
abbrev pub with_formula : {A : Type 0} → Option Formula → (Formula → Reply A) → Reply A
with_formula none next = refusal 10 1
with_formula (some F) next = next F

abbrev pub long_enough : {A : Type 0} → List ℕ → List ℕ → Reply A → Reply A
long_enough table formula next =
    unless (leb table_length (length table)) 14 table_length (
    unless (leb formula_length (length formula)) 14 formula_length next)

-- An entry over a prepared table and a prepared formula: the table and the formula in them.
abbrev pub on_prepared : {A : Type 0} → List ℕ → List ℕ → (Table → Formula → Reply A) → Reply A
on_prepared table formula next =
    long_enough table formula (
    with_table (prepared_table table) (λ t.
    with_formula (prepared_formula (labels t) formula) (λ F. next t F)))

-- An entry over a prepared table, and a buffer lent for a prepared formula: the table in the bytes.
abbrev pub on_table : {A : Type 0} → List ℕ → List ℕ → (Table → Reply A) → Reply A
on_table table buffer next = long_enough table buffer (with_table (prepared_table table) next)

-- `table` is the prepared table, `text` the formula's text, `buffer` what is lent for the prepared formula.
unfoldable pub formula_reading : List ℕ → List ℕ → List ℕ → Reply Formula
formula_reading table text buffer = on_table table buffer (λ t. read_formula t.names text)

abbrev pub formula_replied : List ℕ → List ℕ → List ℕ → Reply (Unit {0})
formula_replied table text buffer = answers (λ F. tt) (formula_reading table text buffer)

abbrev pub formula_left : List ℕ → List ℕ → List ℕ → List ℕ
formula_left table text buffer = left_in formula_bytes (formula_reading table text buffer) buffer
