-- `kept::store_set` meets its contract: one mask more each turn.
use mathlib.Core.Path.{◌≡◌, subst}
use Prim.Native.Nat.{◌+◌, ◌-◌, ◌*◌, ◌<◌, ◌≤◌}
use native.Mathlib.Omega.{arith}
use Rattle.kept_sets.specs.inner.Kept.{Stored}
use Rattle.kept_sets.proofs.Laws.Kept.{base-few, stored_none, stored_more}
use Rattle.kept_sets.proofs.kept.store_set.Given as goal

abbrev pub invariant-loop-s : goal.invariant-loop-s
invariant-loop-s l = (l.s ≤ l.states) × Stored l.initial.work l.base l.s l.set l.work
