-- `kept::load_set` meets its contract: one mask more each turn.
use Prim.Native.Nat.{ℕ, ◌+◌, ◌-◌, ◌*◌, ◌<◌, ◌≤◌}
use mathlib.Core.Path.{◌≡◌, sym}
use native.Mathlib.Omega.{arith}
use lib.ListN.{get_or}
use Rattle.kept_sets.specs.inner.Kept.{word_at, IsSet}
use Rattle.kept_sets.proofs.Laws.Kept.{base-few, set-set, set_next, set_is}
use Rattle.kept_sets.proofs.kept.load_set.Given as goal

abbrev pub invariant-loop-s : goal.invariant-loop-s
invariant-loop-s l = (l.s ≤ l.states) × IsSet l.states l.set × ((j : ℕ) → j < l.s → get_or l.set j 0 ≡ word_at l.work (l.base + j))
