-- `bad_letter` meets its contract: the letters below i are labels.
use mathlib.Core.Path.{◌≡◌, sym, ap, ◌∙◌}
use Prim.Native.Nat.{◌<◌}
use native.Mathlib.Omega.{arith}
use lib.ListN.{get_or}
use Rattle.automaton.specs.WordAsked.{is_bad}
use Rattle.frontier.proofs.Laws.Left.{bad_start, bad_over, bad_full, bad_here, bad_later}
use Rattle.words.proofs.bad_letter.Goals as goal

pub loop-i-init : goal.loop-i-init
loop-i-init c =
    (omega arith, bad_start _ _)

pub returns-then-i-eq-LONGEST_WORD : goal.returns-then-i-eq-LONGEST_WORD
returns-then-i-eq-LONGEST_WORD c =
    let loop = c.loop-i in
    sym (loop.invariant.1 ∙ bad_full _ _ loop.i c.if-i-eq-LONGEST_WORD.true c.loop-i-test.true)

pub bounds-word-i : goal.bounds-word-i
bounds-word-i c =
    omega (arith, c.loop-i-test.true)

pub returns-then-is_bad : goal.returns-then-is_bad
returns-then-is_bad c =
    let few : c.loop-i.i < 1024 = omega (arith, c.if-i-eq-LONGEST_WORD.false, c.loop-i.invariant.0) in
    let told : is_bad c.args.labels (get_or c.args.word.now c.loop-i.i 0) ≡ c.is_bad.result = ap (is_bad c.args.labels) (sym c.from.ensures) ∙ sym c.is_bad.ensures in
    let loop = c.loop-i in
    sym (loop.invariant.1 ∙ bad_here _ _ loop.i (few) c.loop-i-test.true (told ∙ c.if-is_bad.true))

pub loop-i-preserved : goal.loop-i-preserved
loop-i-preserved c =
    let few : c.loop-i.i < 1024 = omega (arith, c.if-i-eq-LONGEST_WORD.false, c.loop-i.invariant.0) in
    let told : is_bad c.args.labels (get_or c.args.word.now c.loop-i.i 0) ≡ c.is_bad.result = ap (is_bad c.args.labels) (sym c.from.ensures) ∙ sym c.is_bad.ensures in
    let loop = c.loop-i in
    (omega (arith, few), loop.invariant.1 ∙ bad_later _ _ loop.i (few) c.loop-i-test.true (told ∙ c.if-is_bad.false))

pub returns : goal.returns
returns c =
    sym (c.loop-i.invariant.1 ∙ bad_over _ _ c.loop-i.i c.loop-i-test.false)
