-- `write_labels` meets its contract: one line more stands there each turn.
use mathlib.Core.Path.{◌≡◌}
use Prim.Native.Nat.{◌+◌, ◌≤◌, ◌<◌}
use native.Mathlib.Omega.{arith}
use lib.ListN.{length}
use Rattle.columns.proofs.Laws.Pasting.{pasting_none, pasting_length}
use Rattle.lts.specs.Steps.{labels}
use Rattle.lts.specs.inner.Prepared.{table_in}
use Rattle.written_lines.specs.inner.Lines.{label_width}
use Rattle.written_lines.proofs.Laws.Growing.{label-on, labels-all}
use Rattle.written_lines.proofs.write_labels.Goals as goal

pub loop-k-init : goal.loop-k-init
loop-k-init c =
    (pasting_none _ _ (omega (arith, c.requires.1)), omega arith, omega arith)

pub write_label-end-requires : goal.write_label-end-requires
write_label-end-requires c =
    let few : c.loop-k.k < labels (table_in c.args.table.now) = omega (arith, c.loop-k-test.true, c.label_count-count.ensures.count) in
    let room : c.loop-k.end + label_width ≤ length c.args.text.now = omega (arith, few, c.loop-k.invariant.2, c.requires.1) in
    (c.requires.0, (few, omega (arith, room, pasting_length c.loop-k.invariant.0)))

pub loop-k-preserved : goal.loop-k-preserved
loop-k-preserved c =
    let few : c.loop-k.k < labels (table_in c.args.table.now) = omega (arith, c.loop-k-test.true, c.label_count-count.ensures.count) in
    let room : c.loop-k.end + label_width ≤ length c.args.text.now = omega (arith, few, c.loop-k.invariant.2, c.requires.1) in
    let a = c.args in
    let l = c.loop-k in
    let w = c.write_label-end in (
      label-on a.table.now a.text.now a.at l.k l.text l.end l.invariant.0 (few) w.new.text w.result w.ensures.stands
          (omega (arith, w.ensures.upper_bound, room)),
      omega (arith, c.loop-k-test.true),
      omega (arith, w.ensures.upper_bound, l.invariant.2),
    )

pub shape_of-text : goal.shape_of-text
shape_of-text c =
    pasting_length c.loop-k.invariant.0

pub returns : goal.returns
returns c =
    let l = c.loop-k in
    let a = c.args in
    let all : l.k ≡ labels (table_in a.table.now) = omega (arith, l.invariant.1, c.loop-k-test.false, c.label_count-count.ensures.count) in
    record { stands = labels-all a.table.now a.text.now a.at l.k l.text l.end l.invariant.0 all; upper_bound = omega (arith, all, l.invariant.2) }
