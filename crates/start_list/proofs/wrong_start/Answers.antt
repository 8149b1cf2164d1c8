-- `wrong_start` meets its contract: what is wrong below i is found.
use mathlib.Core.Path.{refl, sym, ◌∙◌}
use mathlib.Core.Bool.{cond}
use mathlib.Core.Option.{none, some}
use Prim.Native.Nat.{◌<◌}
use native.Mathlib.Omega.{arith}
use lib.ListN.{length}
use Rattle.starts.specs.Starts.{is_right, wrong_start}
use Rattle.starts.specs.inner.Search.{earlier}
use Rattle.starts.proofs.Beginnings.{wrong-next, least_next, wrong-begun}
use Rattle.start_list.proofs.wrong_start.Goals as goal

pub loop-i-init : goal.loop-i-init
unfolding wrong_start
loop-i-init c =
    (omega arith, refl, refl)

pub byte-s-requires : goal.byte-s-requires
byte-s-requires c =
    omega (arith, c.loop-i-test.true, c.entries-end.ensures)

pub overflow_add-least : goal.overflow_add-least
overflow_add-least c =
    omega (arith, c.byte-s.ensures.fits)

pub loop-i-preserved : goal.loop-i-preserved
loop-i-preserved c =
    let listed : c.loop-i.i < length c.args.starts.now = omega (arith, c.loop-i-test.true, c.entries-end.ensures) in
    let a = c.args in
    let loop = c.loop-i in
    let l = a.starts.now in
    let entry = c.byte-s.ensures.count in
    let right = c.is_right.ensures ∙ (λ k. is_right a.states (loop.invariant.2 k) (entry k)) in (
      omega (arith, c.loop-i-test.true),
      c.found_with-found.ensures ∙ (λ k. earlier (loop.invariant.1 k) (cond (right k) none (some loop.i))) ∙ sym (wrong-next a.states l loop.i (listed)),
      omega (arith, entry, least_next a.states l loop.i (listed)),
    )

pub returns : goal.returns
returns c =
    let loop = c.loop-i in
    loop.invariant.1 ∙ wrong-begun c.args.states c.args.starts.now c.requires loop.i (omega (arith, c.loop-i-test.false, c.entries-end.ensures))
