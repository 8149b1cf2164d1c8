-- `write_files` meets its contract: the refusal of the file that is refused first, or what both come to.
use borrow.Author.Rules.{rules}
use native.Mathlib.Omega.{arith}
use Rattle.files.proofs.Counts.{written-counts}
use Rattle.combined_text.specs.inner.Reading.{FileHeld, BothHeld}
use Rattle.combined_text.proofs.Lines.{first-refused, second-refused, both-written, both-held}
use Rattle.combined_text.proofs.write_files.Goals as goal

pub returns-in-Err : goal.returns-in-Err
returns-in-Err c =
    let a = c.args in
    let written = first-refused a.firstfile.now a.secondfile.now a.out.now _ _ _ _
    c.in-Err.ensures c.write_refused.ensures in record { text_written = written; prefix_length = written-counts written (omega arith) }

pub returns-in-Err-read_file : goal.returns-in-Err-read_file
returns-in-Err-read_file c =
    let first-held : FileHeld c.args.firstfile.now c.read_file.new.table = c.in-Ok.ensures in
    let a = c.args in
    let x = first-held in
    let written = second-refused a.firstfile.now a.secondfile.now a.out.now _ _ x.t x.read _ _
    c.in-Err-read_file.ensures c.write_refused-in-Err-read_file.ensures in
    record { text_written = written; prefix_length = written-counts written (omega arith) }

pub write_both-requires : goal.write_both-requires
write_both-requires c =
    let first-held : FileHeld c.args.firstfile.now c.read_file.new.table = c.in-Ok.ensures in
    let second-held : FileHeld c.args.secondfile.now c.read_file-2.new.table = c.in-Ok-read_file.ensures in
    let held : BothHeld c.read_file.new.table c.read_file-2.new.table = both-held c.args.firstfile.now c.args.secondfile.now _ _ (first-held) second-held in
    (held, omega arith)

pub returns : goal.returns
returns c =
    let first-held : FileHeld c.args.firstfile.now c.read_file.new.table = c.in-Ok.ensures in
    let second-held : FileHeld c.args.secondfile.now c.read_file-2.new.table = c.in-Ok-read_file.ensures in
    let held : BothHeld c.read_file.new.table c.read_file-2.new.table = both-held c.args.firstfile.now c.args.secondfile.now _ _ (first-held) second-held in
    let a = c.args in
    let written = both-written a.firstfile.now a.secondfile.now a.out.now _ _ _ _ (first-held).read (second-held).read
    (c.write_both.ensures (held)) in record { text_written = written; prefix_length = written-counts written (omega arith) }
