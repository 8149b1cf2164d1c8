-- `some_final` meets its contract: no place below k is final.
use mathlib.Core.Path.{sym, ◌∙◌}
use native.Mathlib.Omega.{arith}
use Rattle.automaton.specs.inner.Sizes.{place_count}
use Rattle.frontier.specs.inner.Reached.{final_place}
use Rattle.frontier.proofs.Laws.Left.{any-start, any_found, any-later, any_over}
use Rattle.words.proofs.some_final.Goals as goal

pub loop-k-init : goal.loop-k-init
loop-k-init c =
    (omega arith, any-start (final_place c.args.finals.now c.args.places) place_count)

pub is_final-requires : goal.is_final-requires
is_final-requires c =
    omega (arith, c.loop-k-test.true)

pub returns-then-is_final : goal.returns-then-is_final
returns-then-is_final c =
    let loop = c.loop-k in
    sym (loop.invariant.1 ∙ any_found _ place_count loop.k c.loop-k-test.true (sym c.is_final.ensures ∙ c.if-is_final.true))

pub loop-k-preserved : goal.loop-k-preserved
loop-k-preserved c =
    let loop = c.loop-k in
    let later = any-later _ place_count loop.k c.loop-k-test.true (sym c.is_final.ensures ∙ c.if-is_final.false) in
    (omega (arith, c.loop-k-test.true), loop.invariant.1 ∙ later)

pub returns : goal.returns
returns c =
    sym (c.loop-k.invariant.1 ∙ any_over _ place_count c.loop-k.k c.loop-k-test.false)
