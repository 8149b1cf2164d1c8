-- `label_at_once` meets its contract: the states below s are labelled.
use Prim.Native.Nat.{◌<◌}
use native.Mathlib.Omega.{arith}
use Rattle.lts.specs.Sizes.{most_states}
use Rattle.until_search.proofs.Laws.Flags.{flags_none, flags_on, flags_all}
use Rattle.labelling.proofs.steps.label_at_once.Goals as goal

pub loop-s-init : goal.loop-s-init
loop-s-init c =
    (omega arith, flags_none _)

pub at_once-requires : goal.at_once-requires
at_once-requires c =
    let state : c.loop-s.s < most_states = omega (arith, c.loop-s-test.true, c.requires.states_le_most_states.0) in
    record { steps_fit = c.requires.steps_fit; s_lt_most_states = (state, c.requires.states_le_most_states.1, c.requires.states_le_most_states.2) }

pub bounds-found-s : goal.bounds-found-s
bounds-found-s c =
    let state : c.loop-s.s < most_states = omega (arith, c.loop-s-test.true, c.requires.states_le_most_states.0) in
    omega (arith, state)

pub loop-s-preserved : goal.loop-s-preserved
loop-s-preserved c =
    let state : c.loop-s.s < most_states = omega (arith, c.loop-s-test.true, c.requires.states_le_most_states.0) in
    let loop = c.loop-s in
    (omega (arith, c.loop-s-test.true), flags_on _ loop.s c.at_once.result (state) c.at_once.ensures loop.invariant.1)

pub returns : goal.returns
returns c =
    flags_all _ _ c.loop-s.s c.loop-s-test.false c.loop-s.invariant.1
