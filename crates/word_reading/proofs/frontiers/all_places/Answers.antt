-- `frontiers::all_places` meets its contract: what the states from s on add is left.
use mathlib.Core.Path.{◌≡◌, sym, ap, ◌∙◌}
use mathlib.Core.Bool.{true, false, cond}
use mathlib.Core.List.{List}
use Prim.Native.Nat.{ℕ, ◌-◌, ◌<◌}
use native.Mathlib.Omega.{arith}
use lib.Bits.{bit_or}
use lib.ListN.{get_or}
use Rattle.frontier.specs.inner.Frontier.{has_state, places_added, all_places}
use Rattle.frontier.proofs.Laws.Through.{left, left_over, left_skip, left_turn}
use Rattle.word_reading.proofs.frontiers.all_places.Goals as goal

idle : (frontier : List ℕ) (s found : ℕ) → has_state frontier s ≡ false → places_added frontier s found ≡ found
idle frontier s found e = ap (λ b. cond b (bit_or found (get_or frontier s 0)) found) e

pub loop-s-init : goal.loop-s-init
loop-s-init c =
    let frontier = c.args.frontier.now in
    let first = c.next_state-s.ensures in
    (first.found, left_skip (places_added frontier) 256 (has_state frontier) (idle frontier) 0 first)

pub loop-s-smaller : goal.loop-s-smaller
loop-s-smaller c =
    omega (arith, c.next_state-s-in-loop-s.ensures.from)

pub loop-s-preserved : goal.loop-s-preserved
loop-s-preserved c =
    let frontier = c.args.frontier.now in
    let loop = c.loop-s in
    let taken = c.loop-s-test.true in
    let first = c.next_state-s-in-loop-s.ensures in
    let more = bit_or loop.found (get_or frontier loop.s 0) in (
      first.found,
      loop.invariant.1 ∙ left_turn (places_added frontier) 256 (has_state frontier) (idle frontier) loop.found more taken
          (ap (λ b. cond b more loop.found) (loop.invariant.0 taken)) first,
    )

pub returns : goal.returns
returns c =
    let frontier = c.args.frontier.now in
    sym (c.loop-s.invariant.1 ∙ left_over (places_added frontier) 256 c.loop-s.s c.loop-s.found c.loop-s-test.false)
