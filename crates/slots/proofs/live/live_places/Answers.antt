-- `live::live_places` meets its contract: one place more is looked at each turn.
use Rattle.lts.specs.Sizes.{most_states}
use Prim.Native.Nat.{◌-◌, ◌*◌, ◌≤◌}
use native.Mathlib.Omega.{arith}
use Rattle.breadth_first.specs.inner.Finding.{LiveBelow}
use Rattle.slots.proofs.LivePlaces.{live-start, live-done}
use Rattle.slots.proofs.live.live_places.Goals as goal

pub loop-q-init : goal.loop-q-init
loop-q-init c =
    (omega arith, live-start c.args.slots.now)

pub live_place-requires : goal.live_place-requires
live_place-requires c =
    record { q_le_most_nodes = omega (arith, c.requires.0); live_below = c.loop-q.invariant.1 }

pub loop-q-preserved : goal.loop-q-preserved
loop-q-preserved c =
    (omega arith, c.live_place.ensures)

pub returns : goal.returns
returns c =
    let l = c.loop-q in
    (l.invariant.1.long, live-done l.invariant.1 (λ p h. c.requires.1 p (omega arith)))
