-- `live::live_place` meets its contract: one slot more is looked at each turn.
use Rattle.lts.specs.Sizes.{most_states}
use borrow.Author.Rules.{rules}
use mathlib.Core.Path.{◌≡◌, subst}
use Prim.Native.Nat.{◌+◌, ◌-◌, ◌*◌, ◌≤◌}
use native.Mathlib.Omega.{arith}
use Rattle.breadth_first.specs.inner.Finding.{LiveBelow}
use Rattle.slots.proofs.LivePlaces.{live_turn}
use Rattle.slots.proofs.live.live_place.Goals as goal

pub loop-s-init : goal.loop-s-init
loop-s-init c =
    let d = c.args in
    let e : d.q * most_states ≡ d.q * most_states + 0 = omega arith in
    (omega arith, subst (λ n. LiveBelow n d.slots.now d.live.now) e c.requires.live_below)

pub loop-s-preserved : goal.loop-s-preserved
loop-s-preserved c =
    let l = c.loop-s in
    (omega arith, live_turn c.args.q l.s c.requires.q_le_most_nodes (omega arith) l.invariant.1 c.less_closed.result c.less_closed.ensures)

pub returns : goal.returns
returns c =
    let l = c.loop-s in
    let d = c.args in
    let e : d.q * most_states + l.s ≡ (d.q + 1) * most_states = omega arith in
    subst (λ n. LiveBelow n d.slots.now l.live) e l.invariant.1
