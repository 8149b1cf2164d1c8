-- What is said of the table and the formula in prepared bytes.
use Rattle.std.specs.Prelude.{◌≡◌, List, ℕ}
use Rattle.std.proofs.Math.Option.{some}
use Rattle.lts.specs.Steps.{Table, labels}
use Rattle.lts.specs.inner.Prepared.{prepared_table}
use Rattle.actl.specs.Formulas.{Formula}
use Rattle.actl.specs.inner.Prepared.{prepared_formula}

abbrev pub InPrepared : List ℕ → List ℕ → (Table → Formula → Type 0) → Type 0
InPrepared table formula Said = (t : Table) × (F : Formula) × (prepared_table table ≡ some t) × (prepared_formula (labels t) formula ≡ some F) × Said t F
