-- `write_label` leaves a label's line `pasted`: its number, a blank, its name, the LF.
use mathlib.Core.Path.{◌≡◌, ◌∙◌}
use Prim.Native.Nat.{◌+◌}
use native.Mathlib.Omega.{arith}
use lib.ListN.{length, length-set}
use Rattle.lts.specs.inner.Prepared.{name_at}
use Rattle.written_lines.proofs.Laws.Lines.{label-stands}
use Rattle.written_lines.proofs.Laws.Names.{slot-short}
use Rattle.written_lines.proofs.write_label.Goals as goal

pub write_name-end-requires : goal.write_name-end-requires
write_name-end-requires c =
    let blank-length : length c.write_small.new.out ≡ length c.args.text.now = c.write_small.auto.out in
    let held = c.requires in
    (held.0, (held.1.0, simp length-set (omega (arith, blank-length, held.1.1))))

pub bounds-text-end : goal.bounds-text-end
bounds-text-end c =
    let blank-length : length c.write_small.new.out ≡ length c.args.text.now = c.write_small.auto.out in
    let name-length : length c.write_name-end.new.text ≡ length c.args.text.now = c.write_name-end.auto.text ∙ length-set c.write_small.new.out (c.args.at + 6) _ ∙ blank-length in
    omega (arith, name-length, c.write_name-end.ensures.upper_bound, c.requires.1.1)

pub shape_of-text : goal.shape_of-text
shape_of-text c =
    let blank-length : length c.write_small.new.out ≡ length c.args.text.now = c.write_small.auto.out in
    let name-length : length c.write_name-end.new.text ≡ length c.args.text.now = c.write_name-end.auto.text ∙ length-set c.write_small.new.out (c.args.at + 6) _ ∙ blank-length in
    length-set c.write_name-end.new.text c.write_name-end.result _ ∙ name-length

pub returns : goal.returns
returns c =
    let held = c.requires in
    let a = c.args in record {
      stands = label-stands a.text.now a.at a.k (omega (arith, held.1.0, held.0.in_range.few_labels)) (name_at a.table.now a.k)
          (omega (arith, slot-short held.0 held.1.0, held.1.1)) c.write_small.new.out c.write_name-end.new.text
          c.write_name-end.result c.write_small.ensures c.write_name-end.ensures.stands;
      upper_bound = omega (arith, c.write_name-end.ensures.upper_bound);
    }
