-- `round` meets its contract: state by state.
use borrow.Author.Rules.{rules}
use mathlib.Core.List.{List}
use Prim.Native.Nat.{ℕ, ◌-◌, ◌≤◌}
use native.Mathlib.Omega.{arith}
use Rattle.deterministic.specs.inner.Arrays.{array_table}
use Rattle.merging.specs.inner.Rounds.{Ended}
use Rattle.packed_steps.specs.inner.Packed.{Packed, Sized}
use Rattle.merging.proofs.Laws.Rounds.{Going, going_start, going_more, going_done, first-is, ended-stays}
use Rattle.merging.proofs.round.Given as goal

abbrev pub invariant-loop-k : goal.invariant-loop-k
invariant-loop-k l = (l.k ≤ l.n) × Ended l.n l.new ×
    ((next : List ℕ) (columns : ℕ) → Sized next l.n columns → Packed next l.n columns l.work l.many → Going (array_table next l.marks l.n columns) l.old l.new l.k l.steady)
