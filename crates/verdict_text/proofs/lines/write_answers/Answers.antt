-- `write_answers` meets its contract: the first line and the entries' stand one behind the other.
use mathlib.Core.Path.{◌≡◌, ap, ◌∙◌}
use native.Mathlib.Omega.{arith}
use lib.ListN.{length, take}
use Rattle.columns.specs.Lines.{numbers_line}
use Rattle.listing_text.specs.inner.Lines.{LinesWritten}
use Rattle.verdict_text.specs.inner.Entries.{entry_line}
use Rattle.verdict_text.proofs.Laws.Lines.{pair_wide, entry-wide, all-written}
use Rattle.verdict_text.proofs.lines.write_answers.Goals as goal

pub write_lines-requires : goal.write_lines-requires
write_lines-requires c =
    let a = c.args in
    let first = c.write_numbers-first in
    let first_ends : first.result ≡ 13 =
    first.ensures.value ∙ omega (arith, pair_wide a.joint a.count (omega (arith, c.requires.joint_bound)) (omega (arith, c.requires.joint_bound))) in record {
      asked = λ i b. (omega (arith, c.requires.count_in_bounds.0), omega (arith, c.requires.count_in_bounds.1));
      few = omega arith;
      wide = λ i numbers b e.
          ap (λ n. length (numbers_line (take 2 n))) e ∙ entry-wide a.starts.now a.answers.now i (omega (arith, c.type_inv.starts i)) (omega (arith, c.type_inv.answers i));
      room = omega (arith, c.requires.joint_bound.1, c.requires.count_in_bounds.2, first_ends, first.auto.out);
    }

pub returns : goal.returns
returns c =
    let a = c.args in
    let first = c.write_numbers-first in
    let first_ends : first.result ≡ 13 =
    first.ensures.value ∙ omega (arith, pair_wide a.joint a.count (omega (arith, c.requires.joint_bound)) (omega (arith, c.requires.joint_bound))) in
    let entries : LinesWritten (entry_line a.starts.now a.answers.now) 13 a.count first.result first.new.out c.write_lines.new.out c.write_lines.result =
    c.write_lines.ensures (entry_line a.starts.now a.answers.now) (λ i numbers b e. ap (λ n. numbers_line (take 2 n)) e) in
    all-written a.joint a.count a.starts.now a.answers.now a.out.now (omega (arith, c.requires.joint_bound.1, c.requires.count_in_bounds.2, first_ends, entries.wide))
    first.ensures.out_after first.ensures.value entries
