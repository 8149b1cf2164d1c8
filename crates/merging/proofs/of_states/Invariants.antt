-- `of_states` meets its contract: the blocks are copied one by one.
use mathlib.Core.Path.{◌≡◌, ◌∙◌}
use Prim.Native.Nat.{ℕ, ◌-◌, ◌<◌, ◌≤◌}
use native.Mathlib.Omega.{arith}
use lib.ListN.{length, get_or, length-set}
use Rattle.deterministic.specs.Sizes.{most_sets}
use Rattle.merging.proofs.Laws.Rounds.{copied_more, copied_all}
use Rattle.merging.proofs.of_states.Given as goal

abbrev pub invariant-loop-k : goal.invariant-loop-k
invariant-loop-k l = (l.k ≤ most_sets) × (length l.blocks ≡ most_sets) × ((i : ℕ) → i < l.k → get_or l.blocks i 0 ≡ get_or l.names i 0)
