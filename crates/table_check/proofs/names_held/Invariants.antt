-- `names_held` meets its contract: the slots below k hold names, each a new one.
use mathlib.Core.Path.{◌≡◌}
use Prim.Native.Nat.{ℕ, ◌≤◌, ◌<◌}
use Rattle.lts.specs.Steps.{labels}
use Rattle.lts.specs.inner.Prepared.{table_in}
use Rattle.lts.specs.inner.Check.{NameHeld, NewName}
use Rattle.table_check.proofs.names_held.Given as goal

abbrev pub invariant-loop-k : goal.invariant-loop-k
invariant-loop-k l = (l.k ≤ l.n) × (l.n ≡ labels (table_in l.table)) × ((j : ℕ) → j < l.k → NameHeld l.table j × NewName l.table j)
