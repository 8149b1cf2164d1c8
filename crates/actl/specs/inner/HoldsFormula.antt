-- Bytes in which a formula stands, and where its nodes' arms end.
use Rattle.std.specs.Prelude.{◌≡◌, List, ℕ, ◌+◌, ◌<◌, get_or}
use Rattle.std.proofs.Math.Option.{some}
use Rattle.actl.specs.Formulas.{Formula, tru, size, nodes}
use Rattle.actl.specs.inner.Prepared.{prepared_formula}

-- Bytes in which a formula stands, over n labels.
pub record HoldsFormula (n : ℕ) (b : List ℕ) : Type 0 where
  pub formula : Formula
  pub prepared : prepared_formula n b ≡ some formula

-- Where each node's arms end.
pub record ArmsEnd (n : ℕ) (b ends : List ℕ) : Type 0 where
  pub arms_end : (F : Formula) → prepared_formula n b ≡ some F → (k : ℕ) → k < size F → get_or ends k 0 ≡ k + size (get_or (nodes F) k tru)
