-- `some_final` meets its contract: no place below k is final.
use mathlib.Core.Path.{◌≡◌}
use Prim.Native.Nat.{◌≤◌}
use Rattle.automaton.specs.inner.Sizes.{place_count}
use Rattle.frontier.specs.inner.Reached.{final_place, some_final}
use Rattle.frontier.proofs.Laws.Left.{any_left}
use Rattle.words.proofs.some_final.Given as goal

abbrev pub invariant-loop-k : goal.invariant-loop-k
invariant-loop-k l = (l.k ≤ place_count) × (some_final l.finals l.places ≡ any_left (final_place l.finals l.places) place_count l.k)
