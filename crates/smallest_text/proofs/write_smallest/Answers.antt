-- `write_smallest` meets its contract: the first line, the states and the edges stand one behind the other.
use mathlib.Core.Path.{ap, ◌∙◌}
use mathlib.Core.List.{[], ◌∷◌}
use Prim.Native.Nat.{◌+◌}
use native.Mathlib.Omega.{arith}
use lib.ListN.{length, take}
use Rattle.columns.specs.Lines.{numbers_line}
use Rattle.lts.specs.Reply.{overwritten}
use Rattle.explanations.proofs.Printing.{three_texts}
use Rattle.listing_text.specs.inner.Lines.{LinesWritten}
use Rattle.smallest_text.specs.inner.Lines.{state_text, step_text, lines_text}
use Rattle.smallest_text.proofs.Laws.Held.{held-long, counts-held, text-held}
use Rattle.smallest_text.proofs.Laws.Lines.{state-wide, step-wide}
use Rattle.smallest_text.proofs.write_smallest.Goals as goal

pub pair_at-states-requires : goal.pair_at-states-requires
pair_at-states-requires c =
    omega (arith, held-long c.requires.automaton_in.1)

pub pair_at-edges-requires : goal.pair_at-edges-requires
pair_at-edges-requires c =
    omega (arith, held-long c.requires.automaton_in.1)

pub write_lines-middle-requires : goal.write_lines-middle-requires
write_lines-middle-requires c =
    let k = counts-held c.requires.automaton_in.1 c.pair_at-states.ensures.0 c.pair_at-edges.ensures.0 in
    let smallest = c.args.smallest.now in
    let head = c.write_numbers-head in record {
      asked = λ i b. omega (arith, k.stand);
      few = omega arith;
      wide = λ i numbers b e.
          ap (λ n. length (numbers_line (take 2 n))) e
          ∙ state-wide smallest i (λ n. omega (arith, c.type_inv.smallest n)) (omega (arith, k.few_states));
      room = omega (arith, k.few_states, k.head, c.requires.longest_text_in_bounds, head.ensures.value, head.auto.out);
    }

pub write_lines-requires : goal.write_lines-requires
write_lines-requires c =
    let states = c.pair_at-states in
    let k = counts-held c.requires.automaton_in.1 states.ensures.0 c.pair_at-edges.ensures.0 in
    let smallest = c.args.smallest.now in
    let head = c.write_numbers-head in
    let middle = c.write_lines-middle in
    let marks = middle.ensures (state_text smallest) (λ i numbers b e. ap (λ n. numbers_line (take 2 n)) e) in record {
      asked = λ j b. omega (arith, k.stand);
      few = omega arith;
      wide = λ j numbers b e.
          ap (λ n. length (numbers_line (take 3 n))) e ∙ step-wide smallest (4 + states.result) j (λ n. omega (arith, c.type_inv.smallest n));
      room =
          omega (arith, k.few_states, k.few_edges, k.head, c.requires.longest_text_in_bounds, head.ensures.value, head.auto.out, marks.wide, middle.auto.out);
    }

pub returns : goal.returns
returns c =
    λ d held.
    let states = c.pair_at-states in
    let edges = c.pair_at-edges in
    let head = c.write_numbers-head in
    let middle = c.write_lines-middle in
    let last = c.write_lines in
    let k = counts-held c.requires.automaton_in.1 states.ensures.0 edges.ensures.0 in
    let bytes = c.args.smallest.now in
    let marks : LinesWritten (state_text bytes) 13 states.result head.result head.new.out middle.new.out middle.result =
    middle.ensures (state_text bytes) (λ i numbers b e. ap (λ n. numbers_line (take 2 n)) e) in
    let steps : LinesWritten (step_text bytes (4 + states.result)) 19 edges.result middle.result middle.new.out last.new.out last.result =
    last.ensures (step_text bytes (4 + states.result)) (λ j numbers b e. ap (λ n. numbers_line (take 3 n)) e) in
    let t = three_texts c.args.out.now (numbers_line (states.result ∷ edges.result ∷ [])) (lines_text (state_text bytes) states.result)
    (lines_text (step_text bytes (4 + states.result)) edges.result)
    (omega (arith, k.few_states, k.few_edges, k.head, c.requires.longest_text_in_bounds, head.ensures.value, marks.wide, steps.wide))
    (omega (arith, marks.wide)) (omega (arith, steps.wide))
    head.ensures.out_after head.ensures.value marks.is marks.ends steps.is steps.ends in
    let text = text-held held states.ensures.0 edges.ensures.0 in
    record { is = t.0 ∙ ap (λ l. overwritten l c.args.out.now) text; ends = t.1 ∙ ap length text }
