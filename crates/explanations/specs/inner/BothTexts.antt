-- Both texts read.
use Rattle.std.specs.Prelude.{◌≡◌, List, ℕ}
use Rattle.std.proofs.Math.Option.{some}
use Rattle.lts.specs.Reply.{Reply, accepted, answers}
use Rattle.lts.specs.Steps.{Table, labels}
use Rattle.lts.specs.Reading.{read_table}
use Rattle.lts.specs.Prepared.{table_bytes}
use Rattle.lts.specs.inner.Prepared.{prepared_table}
use Rattle.actl.specs.Formulas.{Formula, class_of}
use Rattle.actl.specs.inner.Reading.{read_formula}
use Rattle.actl.specs.Prepared.{formula_bytes}
use Rattle.actl.specs.inner.Prepared.{prepared_formula}
use Rattle.automaton.specs.inner.Search.{listing}
use Rattle.automaton.specs.Build.{fitted}
use Rattle.explanations.specs.Explanation.{and_then, Explanation}

pub record Read : Type 0 where
  pub table : Table
  pub formula : Formula

abbrev pub readings : List ℕ → List ℕ → Reply Read
readings table_text formula_text =
    and_then (read_table table_text) (λ t. and_then (read_formula t.names formula_text) (λ F. accepted (record { table = t; formula = F })))

-- Bytes that hold what was read.
pub record HoldsBoth (table formula : List ℕ) (x : Read) : Type 0 where
  pub is_table : prepared_table table ≡ some x.table
  pub is_formula : prepared_formula (labels x.table) formula ≡ some x.formula
  pub table_bytes_lem : table ≡ table_bytes x.table
  pub formula_bytes_lem : formula ≡ formula_bytes x.formula

abbrev pub ClassIn : List ℕ → ℕ → Type 0
ClassIn b r = (n : ℕ) (F : Formula) → prepared_formula n b ≡ some F → r ≡ class_of F

-- What was read with its listing, if the lent places suffice.
abbrev pub listing_of : Read → List ℕ → List ℕ → Reply Explanation
listing_of x rows edges = answers (λ L. record { table = x.table; formula = x.formula; list = L }) (fitted (listing x.table x.formula) rows edges)
