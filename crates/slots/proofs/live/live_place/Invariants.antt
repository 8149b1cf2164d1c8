-- `live::live_place` meets its contract: one slot more is looked at each turn.
use Rattle.lts.specs.Sizes.{most_states}
use borrow.Author.Rules.{rules}
use mathlib.Core.Path.{◌≡◌, subst}
use Prim.Native.Nat.{◌+◌, ◌-◌, ◌*◌, ◌≤◌}
use native.Mathlib.Omega.{arith}
use Rattle.breadth_first.specs.inner.Finding.{LiveBelow}
use Rattle.slots.proofs.LivePlaces.{live_turn}
use Rattle.slots.proofs.live.live_place.Given as goal

abbrev pub invariant-loop-s : goal.invariant-loop-s
invariant-loop-s l = (l.s ≤ most_states) × LiveBelow (l.q * most_states + l.s) l.slots l.live
