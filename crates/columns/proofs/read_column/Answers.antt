-- `read_column` answers `column_at`.
use mathlib.Core.Path.{sym, ◌∙◌}
use mathlib.Core.Bool.{true, false}
use native.Mathlib.Omega.{arith}
use Rattle.columns.proofs.Laws.ColumnsRead.{column-outside, column_too_large, column-of-same}
use Rattle.columns.proofs.read_column.Goals.{else-v-lt1000000-via-then-v-lt1000000+else-is_column, else-v-lt1000000-via-else-v-lt1000000}
use Rattle.columns.proofs.read_column.Goals.{then-text-lt6-via-then-text-lt6, then-text-lt6-via-else-text-lt6+then-text-at}
use Rattle.columns.proofs.read_column.Goals as goal

pub returns-then-text-lt6 : goal.returns-then-text-lt6
returns-then-text-lt6 c =
    let a = c.args in
    elim c.then-text-lt6.branch [
      | then-text-lt6-via-then-text-lt6 w ↦ column-outside a.text.now a.at (omega arith)
      | then-text-lt6-via-else-text-lt6+then-text-at w ↦ column-outside a.text.now a.at (omega arith)
    ]

pub returns-then-is_column : goal.returns-then-is_column
returns-then-is_column c =
    let a = c.args in
    column-of-same a.text.now a.at _ c.value_at-v.ensures true (sym c.if-is_column.true ∙ c.is_column.ensures)

pub returns-else-v-lt1000000 : goal.returns-else-v-lt1000000
returns-else-v-lt1000000 c =
    let a = c.args in
    elim c.else-v-lt1000000.branch [
      | else-v-lt1000000-via-then-v-lt1000000+else-is_column w ↦
          column-of-same a.text.now a.at _ c.value_at-v.ensures false (sym w.if-is_column.false ∙ w.is_column.ensures)
      | else-v-lt1000000-via-else-v-lt1000000 w ↦ column_too_large a.text.now a.at (omega (arith, sym c.value_at-v.ensures))
    ]
