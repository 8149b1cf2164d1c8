-- What is written of the bytes that reading leaves: the prepared bytes, and which bytes hold a formula's nodes.
use Rattle.std.specs.Prelude.{◌≡◌, List, ◌∷◌, ℕ, ◌≤◌, take, drop, replicate}
use Rattle.std.proofs.Math.Option.{Option}
use Rattle.columns.specs.inner.Write.{pasted}
use Rattle.actl.specs.Sizes.{most_nodes, formula_length}
use Rattle.actl.specs.Formulas.{Formula, size}
use Rattle.actl.specs.inner.Readers.{earlier}
use Rattle.actl.specs.inner.NodeBytes.{bytes_of_nodes}

-- The prepared bytes of n nodes: their count, and the slots of the bytes b.
abbrev pub prepared_bytes : List ℕ → ℕ → List ℕ
prepared_bytes b n = n ∷ drop 1 (take formula_length b)

-- The bytes b hold the n nodes of F, if they are not too many, and else zeros; `lost` holds the offset o of a name that the table lacks.
pub record NodesHeld (b : List ℕ) (n lost : ℕ) (F : Formula) (o : Option ℕ) : Type 0 where
  pub count : n ≡ size F
  pub made : n ≤ most_nodes → b ≡ pasted (replicate formula_length 0) 1 (bytes_of_nodes F)
  pub lacks : lost ≡ earlier 0 o
