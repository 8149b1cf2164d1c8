-- `new_name` meets its contract: the names before slot j are others than the one in slot k.
use Prim.Native.Nat.{ℕ, ◌≤◌, ◌<◌}
use Rattle.lts.specs.inner.Prepared.{name_at}
use Rattle.lts.specs.inner.Range.{Differ}
use Rattle.table_check.proofs.new_name.Given as goal

abbrev pub invariant-loop-j : goal.invariant-loop-j
invariant-loop-j l = (l.j ≤ l.k) × ((i : ℕ) → i < l.j → Differ (name_at l.table i) (name_at l.table l.k))
