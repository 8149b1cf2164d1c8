-- `reading::read_letter` meets its contract: what the states from s on bring is left.
use mathlib.Core.Path.{◌≡◌, sym, ap, ◌∙◌, subst}
use mathlib.Core.Bool.{true, false, cond}
use mathlib.Core.List.{List}
use Prim.Native.Nat.{ℕ, ◌-◌, ◌<◌}
use native.Mathlib.Omega.{arith}
use lib.ListN.{get_or}
use borrow.Author.Rules.{rules}
use Rattle.lts.specs.Steps.{Step}
use Rattle.lts.specs.inner.Steps.{Carried}
use Rattle.table_steps.specs.inner.StepArray.{steps_in}
use Rattle.frontier.specs.inner.Frontier.{has_state, emptied, through}
use Rattle.frontier.specs.inner.Reached.{places_read, state_read}
use Rattle.frontier.proofs.Laws.Through.{left, left_over, left_skip, left_turn}
use Rattle.word_reading.proofs.read_letter.Goals as goal

idle : (from : ℕ → List Step) (masks reached : List ℕ) (label s : ℕ) (next : List ℕ) → has_state reached s ≡ false → state_read from masks reached label s next ≡ next
idle from masks reached label s next e = ap (λ b. cond b (places_read (from s) masks (get_or reached s 0) label next) next) e

pub loop-s-init : goal.loop-s-init
loop-s-init c =
    let a = c.args in
    let label = c.from-label.result in
    let from = steps_in a.steps.now a.firsts.now in
    let first = c.next_state-s.ensures in
    (first.found, left_skip (state_read from a.masks.now a.reached.now label) 256 (has_state a.reached.now) (idle from a.masks.now a.reached.now label) _ first)

pub offset_bounds-reached-s : goal.offset_bounds-reached-s
offset_bounds-reached-s c =
    omega (arith, c.loop-s-test.true)

pub bounds-reached-s : goal.bounds-reached-s
bounds-reached-s c =
    omega (arith, c.loop-s-test.true)

pub read_places-requires : goal.read_places-requires
read_places-requires c =
    record { steps_fit = c.requires.steps_fit; carried = (subst Carried (sym c.from-label.ensures) c.requires.carried, c.loop-s-test.true) }

pub overflow_add-s : goal.overflow_add-s
overflow_add-s c =
    omega (arith, c.loop-s-test.true)

pub next_state-s-requires-in-loop-s : goal.next_state-s-requires-in-loop-s
next_state-s-requires-in-loop-s c =
    omega (arith, c.loop-s-test.true)

pub loop-s-smaller : goal.loop-s-smaller
loop-s-smaller c =
    omega (arith, c.next_state-s-in-loop-s.ensures.from, c.loop-s-test.true)

pub loop-s-preserved : goal.loop-s-preserved
loop-s-preserved c =
    let a = c.args in
    let label = c.from-label.result in
    let loop = c.loop-s in
    let taken = c.loop-s-test.true in
    let from = steps_in a.steps.now a.firsts.now in
    let first = c.next_state-s-in-loop-s.ensures in
    let more = places_read (from loop.s) a.masks.now (get_or a.reached.now loop.s 0) label loop.next in (
      first.found,
      loop.invariant.1
          ∙ left_turn (state_read from a.masks.now a.reached.now label) 256 (has_state a.reached.now) (idle from a.masks.now a.reached.now label) loop.next _ taken
          (ap (λ b. cond b more loop.next) (loop.invariant.0 taken) ∙ sym c.read_places.ensures) first,
    )

pub returns : goal.returns
returns c =
    let a = c.args in
    let wide = c.from-label in
    let f = state_read (steps_in a.steps.now a.firsts.now) a.masks.now a.reached.now in
    let loop = c.loop-s in
    let over = left_over (f wide.result) 256 loop.s loop.next c.loop-s-test.false in
    let whole = ap (through (f wide.result) 256 0) (sym c.clear.ensures) ∙ (loop.invariant.1 ∙ over) in
    sym (ap (λ l. through (f l) 256 0 (emptied a.next.now)) (sym wide.ensures) ∙ whole)
