-- `write_lines` leaves the text at the start of the buffer: line 1, the labels' lines, the transitions'.
use mathlib.Core.Path.{◌≡◌, ◌∙◌}
use native.Mathlib.Omega.{arith}
use lib.ListN.{length}
use Rattle.written_lines.proofs.Laws.Growing.{text-stands}
use Rattle.written_lines.proofs.write_lines.Goals as goal

pub write_header-requires : goal.write_header-requires
write_header-requires c =
    let held = c.requires in (held.0, omega (arith, held.1))

pub write_labels-end-requires : goal.write_labels-end-requires
write_labels-end-requires c =
    let header-kept : length c.write_header.new.text ≡ length c.args.text.now = c.write_header.auto.text in
    let held = c.requires in
    (held.0, omega (arith, header-kept, held.0.in_range.few_labels, held.1))

pub step_lines-requires : goal.step_lines-requires
step_lines-requires c =
    let header-kept : length c.write_header.new.text ≡ length c.args.text.now = c.write_header.auto.text in
    let labels-kept : length c.write_labels-end.new.text ≡ length c.args.text.now = c.write_labels-end.auto.text ∙ header-kept in
    let held = c.requires in
    let r = held.0.in_range in
    (held.0, omega (arith, labels-kept, c.write_labels-end.ensures.upper_bound, r.few_labels, r.few_transitions, held.1))

pub shape_of-text : goal.shape_of-text
shape_of-text c =
    let header-kept : length c.write_header.new.text ≡ length c.args.text.now = c.write_header.auto.text in
    let labels-kept : length c.write_labels-end.new.text ≡ length c.args.text.now = c.write_labels-end.auto.text ∙ header-kept in
    c.step_lines.auto.text ∙ labels-kept

pub returns : goal.returns
returns c =
    let labelled = c.write_labels-end in
    let stepped = c.step_lines in
    text-stands c.args.table.now c.args.text.now c.requires.0 c.requires.1 c.write_header.new.text
    labelled.new.text stepped.new.text labelled.result stepped.result c.write_header.ensures labelled.ensures.stands
    labelled.ensures.upper_bound stepped.ensures
