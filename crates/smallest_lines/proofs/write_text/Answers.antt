-- `write_text` meets its contract: a refusal's line, or the text of the automaton that was found.
use borrow.Author.Rules.{rules}
use mathlib.Core.Path.{◌≡◌, refl}
use native.Mathlib.Omega.{arith}
use Rattle.files.proofs.Counts.{written-counts}
use Rattle.smallest_lines.proofs.Laws.Written.{was_held, refused-text, held-text}
use Rattle.smallest_lines.proofs.write_text.Goals as goal

pub returns-in-Err : goal.returns-in-Err
returns-in-Err c =
    let call = c.write_refused in
    let a = c.args in
    let written = refused-text a.tablefile.now a.text.now _ _ c.in-Err.ensures.1 a.counted c.in-Err.ensures.0 call.ensures in
    record { text_written = written; prefix_length = written-counts written (omega arith) }

pub write_smallest-requires : goal.write_smallest-requires
write_smallest-requires c =
    let a = c.args in
    let held = was_held a.tablefile.now a.text.now _ _ c.in-Ok.ensures refl in record { automaton_in = (held.beside.smallest, held.held); longest_text_in_bounds = omega (arith, c.requires) }

pub returns-in-Ok : goal.returns-in-Ok
returns-in-Ok c =
    let call = c.write_smallest in
    let a = c.args in
    let written = held-text a.tablefile.now a.text.now _ _ c.in-Ok.ensures a.counted refl call.ensures in record { text_written = written; prefix_length = written-counts written (omega arith) }
