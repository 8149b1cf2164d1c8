-- `settle` meets its contract: each turn starts behind r rounds.
use mathlib.Core.Path.{◌≡◌, ap, ◌∙◌}
use mathlib.Core.Bool.{Bool}
use mathlib.Core.List.{List}
use Prim.Native.Nat.{ℕ, ◌+◌, ◌-◌, ◌≤◌}
use native.Mathlib.Omega.{arith}
use lib.ListN.{take}
use Rattle.deterministic.specs.inner.Blocks.{Table, refined}
use Rattle.deterministic.specs.inner.Arrays.{array_table}
use Rattle.merging.specs.inner.Rounds.{Named, Ended}
use Rattle.packed_steps.specs.inner.Packed.{Packed, Sized}
use Rattle.merging.specs.inner.Alike.{Ready}
use Rattle.merging.proofs.Laws.Looked.{packed_ready}
use Rattle.merging.proofs.Laws.Rounds.{ended-start, refined-start, refined-named, refined-more, merged_early, merged_late}
use Rattle.merging.proofs.settle.Given as goal

abbrev pub Behind : List ℕ → List Bool → ℕ → ℕ → List ℕ → ℕ → Type 0
Behind work marks n many names r = (next : List ℕ) (columns : ℕ) → Sized next n columns → Packed next n columns work many → take n names ≡ refined (array_table next marks n columns) r

abbrev pub invariant-loop-r : goal.invariant-loop-r
invariant-loop-r l = (l.r ≤ l.n + 1) × Ended l.n l.here × Ended l.n l.there × Behind l.work l.marks l.n l.many l.here l.r

abbrev pub decreases-loop-r : goal.decreases-loop-r
decreases-loop-r l = l.n - l.r
