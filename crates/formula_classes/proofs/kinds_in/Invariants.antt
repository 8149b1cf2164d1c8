-- `kinds_in` meets its contract: the loop fills the array from the front.
use mathlib.Core.Path.{◌≡◌}
use Prim.Native.Nat.{◌≤◌}
use lib.ListN.{length, take}
use Rattle.actl.specs.inner.Walk.{kinds_in}
use Rattle.formula_classes.proofs.kinds_in.Given as goal

abbrev pub invariant-loop-k : goal.invariant-loop-k
invariant-loop-k l = (l.k ≤ l.count) × (length l.kinds ≡ 40) × (take l.k l.kinds ≡ kinds_in l.formula l.k)
