-- `frontiers::next_state` meets its contract: no state from s to before v has places.
use mathlib.Core.Path.{◌≡◌}
use mathlib.Core.Bool.{false}
use Prim.Native.Nat.{ℕ, ◌-◌, ◌≤◌, ◌<◌}
use native.Mathlib.Omega.{arith}
use Rattle.frontier.specs.inner.Frontier.{has_state}
use Rattle.frontier.proofs.Laws.Frontiers.{state-found, state-later}
use Rattle.word_reading.proofs.frontiers.next_state.Given as goal

abbrev pub invariant-loop-v : goal.invariant-loop-v
invariant-loop-v l = (l.s ≤ l.v) × (l.v ≤ 256) × ((j : ℕ) → l.s ≤ j → j < l.v → has_state l.frontier j ≡ false)

abbrev pub decreases-loop-v : goal.decreases-loop-v
decreases-loop-v l = 256 - l.v
