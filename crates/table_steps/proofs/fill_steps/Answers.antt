-- `fill_steps` meets its contract: the steps of the states below s stand in the array. In the first loop a transitions leave one of these
use mathlib.Core.Path.{◌≡◌, sym, ap, ◌∙◌, subst}
use Prim.Native.Nat.{◌+◌, ◌≤◌, ◌<◌}
use native.Mathlib.Numerals.{add-one}
use native.Mathlib.Omega.{arith}
use Rattle.lts.specs.Sizes.{most_states}
use Rattle.lts.specs.inner.Sizes.{most_steps}
use Rattle.lts.specs.inner.Prepared.{table_in}
use Rattle.table_steps.specs.inner.StepArray.{exits_below}
use Rattle.table_steps.proofs.Laws.Exits.{exits_none, exits_grow, exits_all}
use Rattle.table_steps.proofs.Laws.StepArray.{BelowDone, below_none, below-fits, below_more, below_all}
use Rattle.table_steps.proofs.fill_steps.Goals as goal

pub transition_count-n-requires : goal.transition_count-n-requires
transition_count-n-requires c =
    c.requires.holds_table.long

pub state_count-states-requires : goal.state_count-states-requires
state_count-states-requires c =
    c.requires.holds_table.long

pub loop-s-init : goal.loop-s-init
loop-s-init c =
    let t = table_in c.args.table.now in
    let none : 0 ≡ exits_below t.transitions 0 = sym (exits_none t.transitions 0 (λ y m. omega arith)) in
    (omega arith, none, below_none t _ _ c.requires.steps_len.0 c.requires.steps_len.1)

pub overflow_add-s : goal.overflow_add-s
overflow_add-s c =
    let few : c.loop-s.s ≤ most_states = omega (arith, c.loop-s.invariant.0, c.state_count-states.ensures.count, c.requires.holds_table.in_range.few_states) in
    omega (arith, few)

pub exits_end-b-requires : goal.exits_end-b-requires
exits_end-b-requires c =
    let l = (table_in c.args.table.now).transitions in
    let loop = c.loop-s in
    let grows = exits_grow l loop.s in record
    { holds_table = c.requires.holds_table; n_value = c.transition_count-n.ensures.count; k_bound = omega (arith, loop.invariant.1, grows, ap (exits_below l) (add-one loop.s)) }

pub overflow_cast-firsts : goal.overflow_cast-firsts
overflow_cast-firsts c =
    let few : c.loop-s.s ≤ most_states = omega (arith, c.loop-s.invariant.0, c.state_count-states.ensures.count, c.requires.holds_table.in_range.few_states) in
    let fits : c.loop-s.at ≤ most_steps = below-fits (table_in c.args.table.now) c.requires.holds_table.in_range (few) c.loop-s.invariant.2 in
    omega (arith, fits)

pub offset_bounds-firsts-s : goal.offset_bounds-firsts-s
offset_bounds-firsts-s c =
    let few : c.loop-s.s ≤ most_states = omega (arith, c.loop-s.invariant.0, c.state_count-states.ensures.count, c.requires.holds_table.in_range.few_states) in
    omega (arith, few)

pub bounds-firsts-s : goal.bounds-firsts-s
bounds-firsts-s c =
    let few : c.loop-s.s ≤ most_states = omega (arith, c.loop-s.invariant.0, c.state_count-states.ensures.count, c.requires.holds_table.in_range.few_states) in
    omega (arith, few)

pub put_state-at-requires : goal.put_state-at-requires
put_state-at-requires c =
    let done = c.loop-s.invariant.2 in
    let count = c.state_count-states.ensures.count in
    let state : c.loop-s.s < most_states = omega (arith, c.loop-s-test.true, count, c.requires.holds_table.in_range.few_states) in
    record { holds_table = c.requires.holds_table; a_value = (c.loop-s.invariant.1, c.exits_end-b.ensures); steps_len = (done.steps_long, (state, omega (arith, done.few, c.loop-s.invariant.1))) }

pub loop-s-preserved : goal.loop-s-preserved
loop-s-preserved c =
    let taken = c.loop-s-test.true in
    let state : c.loop-s.s < most_states = omega (arith, taken, c.state_count-states.ensures.count, c.requires.holds_table.in_range.few_states) in
    let more = below_more (table_in c.args.table.now) c.requires.holds_table.in_range state c.loop-s.invariant.2 _ _ c.put_state-at.ensures in
    (omega (arith, taken), c.exits_end-b.ensures, more)

pub loop-s-2-init : goal.loop-s-2-init
loop-s-2-init c =
    let few : c.loop-s.s ≤ most_states = omega (arith, c.loop-s.invariant.0, c.state_count-states.ensures.count, c.requires.holds_table.in_range.few_states) in
    let all : c.loop-s.s ≡ c.state_count-states.result = omega (arith, c.loop-s.invariant.0, c.loop-s-test.false) in
    (omega arith, omega (arith, few, all), subst (λ s. BelowDone (table_in c.args.table.now) s c.loop-s.at c.loop-s.steps c.loop-s.firsts) all c.loop-s.invariant.2)

pub overflow_cast-firsts-in-loop-s-2 : goal.overflow_cast-firsts-in-loop-s-2
overflow_cast-firsts-in-loop-s-2 c =
    let fits-2 : c.loop-s-2.at ≤ most_steps = below-fits (table_in c.args.table.now) c.requires.holds_table.in_range c.loop-s-2.invariant.1 c.loop-s-2.invariant.2 in
    omega (arith, fits-2)

pub offset_bounds-firsts-s-in-loop-s-2 : goal.offset_bounds-firsts-s-in-loop-s-2
offset_bounds-firsts-s-in-loop-s-2 c =
    omega (arith, c.loop-s-2-test.true)

pub bounds-firsts-s-in-loop-s-2 : goal.bounds-firsts-s-in-loop-s-2
bounds-firsts-s-in-loop-s-2 c =
    omega (arith, c.loop-s-2-test.true)

pub put_state-at-requires-in-loop-s-2 : goal.put_state-at-requires-in-loop-s-2
put_state-at-requires-in-loop-s-2 c =
    let t = table_in c.args.table.now in
    let done = c.loop-s-2.invariant.2 in
    let count = c.transition_count-n.ensures.count in
    let past : t.states ≤ c.loop-s-2.s = omega (arith, c.state_count-states.ensures.count, c.loop-s-2.invariant.0) in
    let all = exits_all t c.requires.holds_table.in_range c.loop-s-2.s past in
    let next = exits_all t c.requires.holds_table.in_range (c.loop-s-2.s + 1) (omega arith) in
    record { holds_table = c.requires.holds_table; a_value = (count ∙ sym all, count ∙ sym next); steps_len = (done.steps_long, (c.loop-s-2-test.true, omega (arith, done.few, count, all))) }

pub loop-s-2-preserved : goal.loop-s-2-preserved
loop-s-2-preserved c =
    let taken = c.loop-s-2-test.true in
    let more = below_more (table_in c.args.table.now) c.requires.holds_table.in_range taken c.loop-s-2.invariant.2 _ _ c.put_state-at-in-loop-s-2.ensures in
    (omega (arith, c.loop-s-2.invariant.0), omega (arith, taken), more)

pub overflow_cast-firsts-2 : goal.overflow_cast-firsts-2
overflow_cast-firsts-2 c =
    let fits-2 : c.loop-s-2.at ≤ most_steps = below-fits (table_in c.args.table.now) c.requires.holds_table.in_range c.loop-s-2.invariant.1 c.loop-s-2.invariant.2 in
    omega (arith, fits-2)

pub returns : goal.returns
returns c =
    let t = table_in c.args.table.now in
    let loop = c.loop-s-2 in
    let last : loop.s ≡ most_states = omega (arith, c.loop-s-2-test.false, loop.invariant.1) in
    below_all t c.requires.holds_table.in_range (subst (λ s. BelowDone t s loop.at loop.steps loop.firsts) last loop.invariant.2)
