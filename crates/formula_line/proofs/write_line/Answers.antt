-- `write_line` meets its contract: a refusal's line, or the text that was written back and an LF.
use borrow.Author.Rules.{rules}
use mathlib.Core.Path.{◌≡◌, refl}
use native.Mathlib.Omega.{arith}
use Rattle.files.proofs.Counts.{written-counts}
use Rattle.formula_line.proofs.Lines.{line-written, refused-line, ended-line}
use Rattle.formula_line.proofs.write_line.Goals as goal

pub returns-in-Err : goal.returns-in-Err
returns-in-Err c =
    let call = c.write_refused in
    let a = c.args in
    let written = refused-line a.tablefile.now a.text.now a.out.now _ c.in-Err.ensures.1 a.counted c.in-Err.ensures.0 call.ensures in
    record { text_written = written; prefix_length = written-counts written (omega arith) }

pub end_line-requires : goal.end_line-requires
end_line-requires c =
    let a = c.args in
    let line = line-written a.tablefile.now a.text.now a.out.now _ c.in-Ok.ensures refl in
    omega (arith, line.short)

pub returns-in-Ok : goal.returns-in-Ok
returns-in-Ok c =
    let call = c.end_line in
    let a = c.args in
    let line = line-written a.tablefile.now a.text.now a.out.now _ c.in-Ok.ensures refl in
    let written = ended-line a.tablefile.now a.text.now a.out.now _ c.in-Ok.ensures a.counted refl
    (omega (arith, line.short)) call.ensures.value call.ensures.out_after in record { text_written = written; prefix_length = written-counts written (omega arith) }
