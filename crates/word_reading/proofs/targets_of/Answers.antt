-- `reading::targets_of` meets its contract: what the places from k on add is left.
use mathlib.Core.Path.{◌≡◌, sym, ap, ◌∙◌}
use mathlib.Core.Bool.{true, false, cond}
use mathlib.Core.List.{List}
use Prim.Native.Nat.{ℕ, ◌+◌, ◌*◌, ◌-◌, ◌<◌}
use native.Mathlib.Omega.{arith}
use lib.Bits.{bit_or}
use lib.ListN.{get_or}
use Rattle.automaton.specs.inner.Sizes.{place_count, column_count}
use Rattle.target_masks.specs.inner.Masks.{mask_on}
use Rattle.bits.specs.inner.Bits.{bit_at}
use Rattle.frontier.specs.inner.Reached.{targets_added, targets_of}
use Rattle.frontier.proofs.Laws.Bits.{BitsFrom, bits_all, bits_some, bits_first, bits_rest}
use Rattle.frontier.proofs.Laws.Through.{left, left_over, left_skip, left_turn}
use Rattle.word_reading.proofs.targets_of.Goals as goal

idle : (masks : List ℕ) (places label k found : ℕ) → bit_at places k ≡ false → targets_added masks places label k found ≡ found
idle masks places label k found e = ap (λ b. cond b (bit_or found (mask_on masks k label)) found) e

pub column-at-requires : goal.column-at-requires
column-at-requires c =
    c.requires

pub loop-k-init : goal.loop-k-init
loop-k-init c =
    let a = c.args in
    let first = c.next_bit-k.ensures in
    (bits_all a.places first, first.found, left_skip (targets_added a.masks.now a.places a.label) place_count (bit_at a.places) (idle a.masks.now a.places a.label) 0 first)

pub overflow_add-found : goal.overflow_add-found
overflow_add-found c =
    omega (arith, c.loop-k-test.true, c.column-at.ensures.1)

pub offset_bounds-masks-k : goal.offset_bounds-masks-k
offset_bounds-masks-k c =
    omega (arith, c.loop-k-test.true, c.column-at.ensures.1)

pub bounds-masks-k : goal.bounds-masks-k
bounds-masks-k c =
    omega (arith, c.loop-k-test.true, c.column-at.ensures.1)

pub overflow_sub-rest : goal.overflow_sub-rest
overflow_sub-rest c =
    let loop = c.loop-k in
    let few : loop.k < 64 = omega (arith, c.loop-k-test.true) in
    omega (arith, bits_some loop.invariant.0 few (loop.invariant.1 few))

pub loop-k-smaller : goal.loop-k-smaller
loop-k-smaller c =
    let loop = c.loop-k in
    let few : loop.k < 64 = omega (arith, c.loop-k-test.true) in
    omega (arith, (bits_first loop.invariant.0 few (loop.invariant.1 few) c.next_bit-k-in-loop-k.ensures).from, c.loop-k-test.true)

pub loop-k-preserved : goal.loop-k-preserved
loop-k-preserved c =
    let found = c.column-at in
    let a = c.args in
    let loop = c.loop-k in
    let taken = c.loop-k-test.true in
    let few : loop.k < 64 = omega (arith, taken) in
    let set = loop.invariant.1 few in
    let next = c.next_bit-k-in-loop-k.ensures in
    let first = bits_first loop.invariant.0 few set next in
    let more = bit_or loop.found (mask_on a.masks.now loop.k a.label) in (
      bits_rest loop.invariant.0 few set next,
      first.found,
      loop.invariant.2
          ∙ left_turn (targets_added a.masks.now a.places a.label) place_count (bit_at a.places) (idle a.masks.now a.places a.label) loop.found _ taken
          (ap (λ b. cond b more loop.found) set ∙ ap (λ n. bit_or loop.found (get_or a.masks.now (loop.k * column_count + n) 0)) (sym found.ensures.0)) first,
    )

pub returns : goal.returns
returns c =
    let a = c.args in
    sym (c.loop-k.invariant.2 ∙ left_over (targets_added a.masks.now a.places a.label) place_count c.loop-k.k c.loop-k.found c.loop-k-test.false)
