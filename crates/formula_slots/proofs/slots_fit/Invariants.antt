-- `slots_fit` meets its contract: every slot so far fits.
use Prim.Native.Nat.{◌≤◌}
use Rattle.actl.specs.inner.Prepared.{slot_at}
use Rattle.actl.specs.inner.Check.{slot_fits}
use Rattle.actl.proofs.Laws.Lists.{Passed}
use Rattle.formula_slots.proofs.slots_fit.Given as goal

abbrev pub invariant-loop-k : goal.invariant-loop-k
invariant-loop-k l = (l.k ≤ l.count) × Passed (λ i. slot_fits l.labels (slot_at l.formula i)) 0 l.k
