-- `final_mask` meets its contract: the mask has the final places below k.
use mathlib.Core.Path.{◌≡◌, sym, ap, ◌∙◌}
use mathlib.Core.Bool.{◌||◌}
use Prim.Native.Nat.{ℕ, ◌-◌, ◌≤◌}
use native.Mathlib.Omega.{arith}
use Rattle.lts.specs.inner.Lists.{up_from}
use Rattle.lts.specs.Lists.{any_of}
use Rattle.automaton.specs.inner.Sizes.{place_count}
use Rattle.until_search.specs.inner.Flags.{flag_at}
use Rattle.frontier.specs.inner.Reached.{final_place}
use Rattle.set_steps.specs.inner.Finals.{meets}
use Rattle.set_steps.proofs.Laws.Masks.{meets-more, meets_empty}
use Rattle.set_steps.proofs.Laws.Tests.{any_upto}
use Rattle.set_steps.proofs.finals.final_mask.Goals as goal

pub loop-k-init : goal.loop-k-init
loop-k-init c =
    (omega arith, λ p. sym (meets_empty p))

pub bounds-finals-k : goal.bounds-finals-k
bounds-finals-k c =
    omega (arith, c.loop-k-test.true)

pub with_place-mask-requires : goal.with_place-mask-requires
with_place-mask-requires c =
    omega (arith, c.loop-k-test.true)

pub loop-k-preserved : goal.loop-k-preserved
loop-k-preserved c =
    let loop = c.loop-k in
    let finals = c.args.finals.now in
    let placed = c.with_place-mask.ensures in (
      omega (arith, c.loop-k-test.true),
      λ p. any_upto (final_place finals p) loop.k
          ∙ (ap (λ b. b || final_place finals p loop.k) (loop.invariant.1 p)
          ∙ sym (ap (λ m. meets m p) placed ∙ meets-more loop.mask loop.k p (flag_at finals loop.k))),
    )

pub returns : goal.returns
returns c =
    let loop = c.loop-k in
    let all : loop.k ≡ place_count = omega (arith, loop.invariant.0, c.loop-k-test.false) in
    let finals = c.args.finals.now in
    record { some = λ p. ap (λ n. any_of (final_place finals p) (up_from 0 n)) (sym all) ∙ loop.invariant.1 p }
