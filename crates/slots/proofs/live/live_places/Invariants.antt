-- `live::live_places` meets its contract: one place more is looked at each turn.
use Rattle.lts.specs.Sizes.{most_states}
use Prim.Native.Nat.{◌-◌, ◌*◌, ◌≤◌}
use native.Mathlib.Omega.{arith}
use Rattle.breadth_first.specs.inner.Finding.{LiveBelow}
use Rattle.slots.proofs.LivePlaces.{live-start, live-done}
use Rattle.slots.proofs.live.live_places.Given as goal

abbrev pub invariant-loop-q : goal.invariant-loop-q
invariant-loop-q l = (l.q ≤ l.count) × LiveBelow (l.q * most_states) l.slots l.live
