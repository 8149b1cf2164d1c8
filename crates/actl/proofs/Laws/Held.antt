-- Bytes in which a formula stands: their length, their count of nodes, and that each slot is a node's.
use mathlib.Core.Path.{◌≡◌, ap}
use mathlib.Core.Bool.{true}
use mathlib.Core.List.{List}
use Prim.Native.Nat.{ℕ, ◌≤◌, ◌<◌}
use native.Mathlib.Omega.{arith}
use lib.ListN.{length, get_or, length-take}
use Rattle.actl.specs.Sizes.{most_nodes, formula_length}
use Rattle.actl.specs.inner.Prepared.{slot_at}
use Rattle.actl.specs.inner.Shaped.{shaped}
use Rattle.actl.specs.inner.HoldsFormula.{HoldsFormula}
use Rattle.actl.proofs.Laws.Forms.{length-form}
use Rattle.actl.proofs.Laws.Prepared.{prepared-of, prepared-few, prepared-count, prepared-shaped}

module _ (n : ℕ) (b : List ℕ) (h : HoldsFormula n b) where
  pub formula_long : formula_length ≤ length b
  formula_long =
      omega (arith, ap length (prepared-of n b h.prepared).form, length-form h.formula (prepared-few n b h.prepared), length-take formula_length b)

  pub formula-few : get_or b 0 0 ≤ most_nodes
  formula-few = omega (arith, prepared-count n b h.prepared, prepared-few n b h.prepared)

  pub formula-shaped : (k : ℕ) → k < get_or b 0 0 → shaped (slot_at b k) ≡ true
  formula-shaped k l = prepared-shaped n b h.prepared k (omega (arith, prepared-count n b h.prepared))
