-- `write_found` meets its contract: the counts, the marks and the edges are the automaton's bytes.
use borrow.Author.Rules.{rules}
use native.Mathlib.Omega.{arith}
use Rattle.numbering.proofs.Laws.Whole.{rows_fit, edges_fit, whole}
use Rattle.numbering.proofs.write_found.Goals as goal

pub write_marks-requires : goal.write_marks-requires
write_marks-requires c =
    let r = c.requires.found.stand in record {
      rows_len =
          (r.long, (r.few, omega (arith, r.few, c.requires.smallest_length_in_bounds, c.put_counts.auto.out)));
      by_index = λ i h. (rows_fit c.requires.fits c.requires.found i h).block;
    }

pub write_edges-requires : goal.write_edges-requires
write_edges-requires c =
    let f = c.requires.fits in
    let r = c.requires.found in
    let room = edges_fit f r c.args.marks.now c.args.out.now c.requires.smallest_length_in_bounds in
    record {
      n_le_most_sets = (f.states.1, f.inside);
      count_le_most_sets = (r.stand.few, f.letters.1);
      by_index = rows_fit f r;
      count_in_bounds =
          omega (arith, room, c.put_counts.auto.out, c.write_marks.auto.out);
    }

pub returns : goal.returns
returns c =
    whole c.requires.fits c.requires.found c.args.marks.now c.args.out.now c.requires.smallest_length_in_bounds c.put_counts.ensures c.write_marks.ensures c.write_edges.ensures
