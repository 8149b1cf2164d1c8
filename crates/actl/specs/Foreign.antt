-- Which prepared bytes every entry over them refuses with 10. Buffers under their lengths are refused with 14 before.
use Rattle.std.specs.Prelude.{◌≡◌, ◌↔◌, List, ℕ, ◌≤◌, length}
use Rattle.lts.specs.Sizes.{table_length}
use Rattle.lts.specs.Reply.{Reply, refusal}
use Rattle.lts.specs.Steps.{labels}
use Rattle.lts.specs.Prepared.{LeftByReading}
use Rattle.actl.specs.Sizes.{formula_length}
use Rattle.actl.specs.Prepared.{FormOfSome}

pub record LongEnough (table formula : List ℕ) : Type 0 where
  pub table_long : table_length ≤ length table
  pub formula_long : formula_length ≤ length formula

-- 01: "prepared table bytes that no accepted reading leaves": 0
pub record TableForeign (table formula : List ℕ) : Type 0 where
  pub long : LongEnough table formula
  pub not_left : LeftByReading table → ⊥

-- 01: "formula bytes that aren't the one form": 1. The table's bytes come first: they are those of the table `left.1`.
pub record FormulaForeign (table formula : List ℕ) : Type 0 where
  pub long : LongEnough table formula
  pub left : LeftByReading table
  pub not_form : FormOfSome (labels left.1) formula → ⊥

-- 01, 10: "0 table, 1 formula". r is the reply of an entry over both.
pub record RefusesForeign {A : Type 0} (table formula : List ℕ) (r : Reply A) : Type 0 where
  pub of_table : (r ≡ refusal 10 0) ↔ TableForeign table formula
  pub of_formula : (r ≡ refusal 10 1) ↔ FormulaForeign table formula
