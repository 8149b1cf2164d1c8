-- `transitions_held` meets its contract: the slots below k are passed, and `least` is above the key of the last of them.
use mathlib.Core.Path.{◌≡◌}
use mathlib.Core.List.{List}
use Prim.Native.Nat.{ℕ, ◌≤◌, ◌<◌}
use lib.ListN.{length}
use Rattle.lts.specs.Steps.{labels}
use Rattle.lts.specs.inner.Prepared.{table_in}
use Rattle.table_check.proofs.Laws.Keys.{Least, Passed}
use Rattle.table_check.proofs.transitions_held.Given as goal

pub record Held (table : List ℕ) (n states most least k : ℕ) : Type 0 where
  pub few : k ≤ n
  pub count : n ≡ length (table_in table).transitions
  pub states-are : states ≡ (table_in table).states
  pub most-is : most ≡ labels (table_in table)
  pub next : Least table k least
  pub done : (j : ℕ) → j < k → Passed table states most least j

abbrev pub invariant-loop-k : goal.invariant-loop-k
invariant-loop-k l = Held l.table l.n l.states l.most l.least l.k
