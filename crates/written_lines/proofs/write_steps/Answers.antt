-- `write_steps` meets its contract: one line more stands there each turn.
use Prim.Native.Nat.{◌+◌, ◌≤◌, ◌<◌}
use native.Mathlib.Omega.{arith}
use lib.ListN.{length}
use Rattle.columns.proofs.Laws.Pasting.{pasting_none, pasting_length}
use Rattle.lts.specs.inner.Prepared.{table_in}
use Rattle.written_lines.specs.inner.Lines.{step_width}
use Rattle.written_lines.proofs.Laws.Growing.{step-on, steps_all}
use Rattle.written_lines.proofs.write_steps.Goals as goal

pub loop-k-init : goal.loop-k-init
loop-k-init c =
    (pasting_none _ _ (omega (arith, c.requires.step_width_in_bounds)), omega arith, omega arith)

pub write_step-requires : goal.write_step-requires
write_step-requires c =
    let few : c.loop-k.k < length (table_in c.args.table.now).transitions = omega (arith, c.loop-k-test.true, c.transition_count-count.ensures.count) in
    let room : c.loop-k.end + step_width ≤ length c.args.text.now = omega (arith, few, c.loop-k.invariant.2, c.requires.step_width_in_bounds) in
    let held = c.requires.holds_table in record { holds_table = (held.0, few); numbers_kept = (held.1, omega (arith, room, pasting_length c.loop-k.invariant.0)) }

pub overflow_add-end : goal.overflow_add-end
overflow_add-end c =
    let few : c.loop-k.k < length (table_in c.args.table.now).transitions = omega (arith, c.loop-k-test.true, c.transition_count-count.ensures.count) in
    let room : c.loop-k.end + step_width ≤ length c.args.text.now = omega (arith, few, c.loop-k.invariant.2, c.requires.step_width_in_bounds) in
    omega (arith, room)

pub loop-k-preserved : goal.loop-k-preserved
loop-k-preserved c =
    let few : c.loop-k.k < length (table_in c.args.table.now).transitions = omega (arith, c.loop-k-test.true, c.transition_count-count.ensures.count) in
    let room : c.loop-k.end + step_width ≤ length c.args.text.now = omega (arith, few, c.loop-k.invariant.2, c.requires.step_width_in_bounds) in
    let a = c.args in
    let l = c.loop-k in
    let w = c.write_step in (
      step-on a.table.now a.text.now a.at l.k l.text l.end c.requires.holds_table.0 l.invariant.0 (few) w.new.text w.ensures (room),
      omega (arith, c.loop-k-test.true),
      omega (arith, l.invariant.2),
    )

pub shape_of-text : goal.shape_of-text
shape_of-text c =
    pasting_length c.loop-k.invariant.0

pub returns : goal.returns
returns c =
    let l = c.loop-k in
    let a = c.args in
    steps_all a.table.now a.text.now a.at l.k l.text l.end l.invariant.0
    (omega (arith, l.invariant.1, c.loop-k-test.false, c.transition_count-count.ensures.count))
