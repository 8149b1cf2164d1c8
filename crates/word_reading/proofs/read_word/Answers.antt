-- `reading::read_word` meets its contract: the letters below i are read.
use mathlib.Core.Path.{◌≡◌, sym, ap, ◌∙◌}
use Prim.Native.Nat.{◌+◌, ◌-◌, ◌≤◌}
use native.Mathlib.Omega.{arith}
use lib.ListN.{length, drop}
use borrow.Author.Rules.{rules}
use Rattle.table_steps.specs.inner.StepArray.{steps_in}
use Rattle.frontier.specs.inner.Frontier.{nowhere, brought, all_places}
use Rattle.frontier.specs.inner.Reached.{word_read, root_reached}
use Rattle.frontier.proofs.Laws.Left.{word_turn, word_turns, word_over}
use Rattle.word_reading.proofs.read_word.Goals as goal

pub bring-requires : goal.bring-requires
bring-requires c =
    c.requires.start_lt_most_states

pub loop-i-init : goal.loop-i-init
loop-i-init c =
    let a = c.args in
    (omega arith, ap (λ x. word_read (steps_in a.steps.now a.firsts.now) a.masks.now a.word.now x nowhere) (sym c.bring.ensures))

pub overflow_add-i : goal.overflow_add-i
overflow_add-i c =
    omega (arith, c.loop-i.invariant.0)

pub bounds-word-i : goal.bounds-word-i
bounds-word-i c =
    omega (arith, c.loop-i-test.true)

pub overflow_add-i-in-loop-i : goal.overflow_add-i-in-loop-i
overflow_add-i-in-loop-i c =
    omega (arith, c.loop-i.invariant.0)

pub bounds-word-i-in-loop-i : goal.bounds-word-i-in-loop-i
bounds-word-i-in-loop-i c =
    c.loop-i-test.true

pub read_two-requires : goal.read_two-requires
read_two-requires c =
    let i = c.loop-i.i in record {
      steps_fit = c.requires.steps_fit;
      carried =
          (c.requires.letters.carried i (omega (arith, c.loop-i-test.true)), c.requires.letters.carried (i + 1) c.loop-i-test.true);
    }

pub overflow_add-i-in-loop-i-2 : goal.overflow_add-i-in-loop-i-2
overflow_add-i-in-loop-i-2 c =
    omega (arith, c.loop-i-test.true)

pub loop-i-smaller : goal.loop-i-smaller
loop-i-smaller c =
    omega (arith, c.loop-i-test.true)

pub loop-i-preserved : goal.loop-i-preserved
loop-i-preserved c =
    let loop = c.loop-i in
    let taken = c.loop-i-test.true in
    let a = c.args in
    let from = steps_in a.steps.now a.firsts.now in (
      omega (arith, taken),
      loop.invariant.1 ∙ word_turns from a.masks.now a.word.now loop.i loop.reached loop.next taken _ _ c.read_two.ensures.next_after c.read_two.ensures.reached_after,
    )

pub bounds-word-i-then-i-word : goal.bounds-word-i-then-i-word
bounds-word-i-then-i-word c =
    c.if-i-word.true

pub read_letter-requires : goal.read_letter-requires
read_letter-requires c =
    record { steps_fit = c.requires.steps_fit; carried = c.requires.letters.carried c.loop-i.i c.if-i-word.true }

pub returns-then-i-word : goal.returns-then-i-word
returns-then-i-word c =
    let a = c.args in
    let from = steps_in a.steps.now a.firsts.now in
    let loop = c.loop-i in
    let read = c.read_letter.ensures in
    let last = word_turn from a.masks.now a.word.now loop.i loop.reached loop.next c.if-i-word.true _ read in
    let over = word_over from a.masks.now a.word.now (loop.i + 1) _ loop.reached c.loop-i-test.false in
    c.all_places.ensures ∙ ap all_places (sym (loop.invariant.1 ∙ (last ∙ over)))

pub returns : goal.returns
returns c =
    let a = c.args in
    let loop = c.loop-i in
    let from = steps_in a.steps.now a.firsts.now in
    let over = word_over from a.masks.now a.word.now loop.i loop.reached loop.next c.if-i-word.false in
    c.all_places-2.ensures ∙ ap all_places (sym (loop.invariant.1 ∙ over))
