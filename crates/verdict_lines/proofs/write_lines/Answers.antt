-- `write_lines` meets its contract: a refusal's line, or the lines of the list.
use borrow.Author.Rules.{rules}
use mathlib.Core.Path.{◌≡◌, refl, sym, ap, ◌∙◌}
use Prim.Native.Nat.{◌≤◌, ◌<◌}
use native.Mathlib.Omega.{arith}
use lib.ListN.{length, take}
use lib.Seq.{length-take-le}
use Rattle.files.proofs.Counts.{written-counts}
use Rattle.verdict_text.proofs.Laws.Entries.{entries-count}
use Rattle.verdict_lines.proofs.Laws.Written.{Listed, refused-lines, was_listed, stopped_lines, listed-lines}
use Rattle.verdict_lines.proofs.write_lines.Goals as goal

pub slice_bounds-starts-end : goal.slice_bounds-starts-end
slice_bounds-starts-end c =
    let fits : c.read_list-count.result ≤ length c.read_list-count.new.starts =
    omega (arith, c.requires.0, entries-count c.args.list.now, c.read_list-count.ensures.few, c.read_list-count.ensures.places) in
    fits

pub slice_bounds-ask-end : goal.slice_bounds-ask-end
slice_bounds-ask-end c =
    let fits : c.read_list-count.result ≤ length c.read_list-count.new.starts =
    omega (arith, c.requires.0, entries-count c.args.list.now, c.read_list-count.ensures.few, c.read_list-count.ensures.places) in
    sym (length-take-le c.read_list-count.result c.read_list-count.new.starts (fits))

pub returns-in-Err : goal.returns-in-Err
returns-in-Err c =
    let call = c.write_refused in
    let written = refused-lines _ _ _ _ _ _ _ c.read_list-count.ensures c.in-Err.ensures.1 _ c.in-Err.ensures.0 call.ensures in
    record { text_written = written; prefix_length = written-counts written (omega arith) }

pub returns-then-count-entry_count : goal.returns-then-count-entry_count
returns-then-count-entry_count c =
    let call = c.write_refused-then-count-entry_count in
    let written = stopped_lines _ _ _ _ _ _ _ c.read_list-count.ensures c.in-Ok.ensures _ refl
    (omega (arith, c.if-count-entry_count.true, c.entry_count.ensures.value)) call.ensures in record { text_written = written; prefix_length = written-counts written (omega arith) }

pub write_answers-requires : goal.write_answers-requires
write_answers-requires c =
    let fits : c.read_list-count.result ≤ length c.read_list-count.new.starts =
    omega (arith, c.requires.0, entries-count c.args.list.now, c.read_list-count.ensures.few, c.read_list-count.ensures.places) in
    let listed = was_listed _ _ _ _ _ _ _ c.read_list-count.ensures c.in-Ok.ensures 0 refl in
    record { joint_bound = (listed.small, listed.few); count_in_bounds = (fits, omega (arith, listed.few, c.ask.auto.answers), c.requires.1) }

pub returns : goal.returns
returns c =
    let call = c.write_answers in
    let written = listed-lines _ _ _ _ _ _ _ c.read_list-count.ensures c.in-Ok.ensures _ refl
    (omega (arith, c.if-count-entry_count.false, c.entry_count.ensures.value)) call.ensures in record { text_written = written; prefix_length = written-counts written (omega arith) }
