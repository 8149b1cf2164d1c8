-- `write_listing` meets its contract: the summary, the rows and the edges stand one behind the other.
use mathlib.Core.Path.{ap, ◌∙◌}
use native.Mathlib.Omega.{arith}
use lib.ListN.{length, take}
use Rattle.columns.specs.Lines.{numbers_line}
use Rattle.explanations.specs.inner.Printed.{row_text, edge_text, rows_text, edges_text}
use Rattle.explanations.specs.Printed.{summary_line}
use Rattle.explanations.proofs.Printing.{three_texts}
use Rattle.listing_text.specs.inner.Lines.{LinesWritten, summary_of}
use Rattle.listing_text.proofs.Laws.Lines.{row-wide, edge-wide}
use Rattle.listing_text.proofs.write_listing.Goals as goal

pub write_lines-second-requires : goal.write_lines-second-requires
write_lines-second-requires c =
    let w = c.write_numbers-first in
    let rows = c.args.rows.now in record {
      asked = λ i b. omega (arith, c.requires.row_length_in_bounds.0);
      few = omega arith;
      wide = λ i numbers b e.
          ap (λ n. length (numbers_line (take 4 n))) e
          ∙ row-wide rows i (λ k. omega (arith, c.type_inv.rows k)) (omega (arith, c.requires.row_length_in_bounds.2));
      room = omega (arith, w.ensures.upper_bound, w.auto.out, c.requires.edgecount_in_bounds);
    }

pub write_lines-requires : goal.write_lines-requires
write_lines-requires c =
    let w = c.write_numbers-first in
    let r = c.write_lines-second in
    let a = c.args in
    let rows = r.ensures (row_text a.rows.now) (λ i numbers b e. ap (λ n. numbers_line (take 4 n)) e) in record {
      asked = λ j b. omega (arith, c.requires.row_length_in_bounds.1);
      few = omega arith;
      wide = λ j numbers b e. ap (λ n. length (numbers_line (take 3 n))) e ∙ edge-wide a.edges.now j (λ k. omega (arith, c.type_inv.edges k));
      room = omega (arith, w.ensures.upper_bound, w.auto.out, rows.wide, r.auto.out, c.requires.edgecount_in_bounds);
    }

pub returns : goal.returns
returns c =
    let a = c.args in
    let w = c.write_numbers-first in
    let rows : LinesWritten (row_text a.rows.now) 25 a.rowcount w.result w.new.out c.write_lines-second.new.out c.write_lines-second.result =
    c.write_lines-second.ensures (row_text a.rows.now) (λ i numbers b e. ap (λ n. numbers_line (take 4 n)) e) in
    let edges : LinesWritten (edge_text a.edges.now) 19 a.edgecount c.write_lines-second.result c.write_lines-second.new.out c.write_lines.new.out c.write_lines.result =
    c.write_lines.ensures (edge_text a.edges.now) (λ j numbers b e. ap (λ n. numbers_line (take 3 n)) e) in
    let summary = summary_line (summary_of a.verdict a.class a.rowcount a.edgecount) in
    let h = three_texts a.out.now summary (rows_text a.rows.now a.rowcount) (edges_text a.edges.now a.edgecount)
    (omega (arith, w.ensures.upper_bound, rows.wide, edges.wide)) (omega (arith, rows.wide)) (omega (arith, edges.wide))
    w.ensures.out_after w.ensures.value rows.is rows.ends edges.is edges.ends in
    record { is = h.0; ends = h.1 }
