-- `frontiers::next_state` meets its contract: no state from s to before v has places.
use mathlib.Core.Path.{◌≡◌}
use mathlib.Core.Bool.{false}
use Prim.Native.Nat.{ℕ, ◌-◌, ◌≤◌, ◌<◌}
use native.Mathlib.Omega.{arith}
use Rattle.frontier.specs.inner.Frontier.{has_state}
use Rattle.frontier.proofs.Laws.Frontiers.{state-found, state-later}
use Rattle.word_reading.proofs.frontiers.next_state.Goals as goal

pub loop-v-init : goal.loop-v-init
loop-v-init c =
    (omega arith, c.requires, λ j a b. absurd (omega arith))

pub returns-then-k-lt64 : goal.returns-then-k-lt64
returns-then-k-lt64 c =
    let a = c.args in
    let loop = c.loop-v in
    let bit = c.next_bit-k in
    state-found a.frontier.now a.s loop.v bit.result c.loop-v-test.true loop.invariant.0 loop.invariant.2 bit.ensures c.if-k-lt64.true

pub loop-v-preserved : goal.loop-v-preserved
loop-v-preserved c =
    let a = c.args in
    let loop = c.loop-v in
    let bit = c.next_bit-k in
    let later = state-later a.frontier.now a.s loop.v bit.result c.loop-v-test.true loop.invariant.0 loop.invariant.2 bit.ensures c.if-k-lt64.false in
    (omega arith, omega arith, later)

pub returns : goal.returns
returns c =
    let loop = c.loop-v in
    record { from = loop.invariant.0; none = loop.invariant.2; found = λ h. absurd (omega arith) }
