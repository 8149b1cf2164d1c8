-- `writing::write_edges` meets its contract: what is left of the rows leads to the bytes at the end.
use borrow.Author.Rules.{rules}
use mathlib.Core.Path.{◌≡◌, refl, sym, ap, ◌∙◌, subst}
use mathlib.Core.List.{List, ◌++◌}
use Prim.Native.Nat.{ℕ, ◌+◌, ◌-◌, ◌*◌, ◌≤◌}
use native.Mathlib.Omega.{arith}
use lib.ListN.{length}
use Rattle.columns.specs.inner.Write.{pasted}
use Rattle.deterministic.specs.Sizes.{most_letters}
use Rattle.numbering.specs.inner.Written.{steps_in, edges_in, RowFits}
use Rattle.numbering.proofs.Laws.Puts.{Left, left-start, left_as, part_room, left_after, left_done, edges_turn, edges_over}
use Rattle.numbering.proofs.writing.write_edges.Goals as goal

pub overflow_add-end : goal.overflow_add-end
overflow_add-end c =
    omega (arith, c.requires.count_le_most_sets.0)

pub loop-i-init : goal.loop-i-init
loop-i-init c =
    let a = c.args in
    let all = edges_in a.next.now a.blocks.now a.numbers.now a.n a.columns a.rows.now 0 in
    let whole : a.count ≡ a.count - 0 = omega arith in
    (omega arith, refl, left_as (ap all whole) (left-start (all a.count) a.out.now (4 + a.count) c.requires.count_in_bounds))

pub offset_bounds-rows-i : goal.offset_bounds-rows-i
offset_bounds-rows-i c =
    omega (arith, c.loop-i-test.true, c.requires.count_le_most_sets.0)

pub bounds-rows-i : goal.bounds-rows-i
bounds-rows-i c =
    omega (arith, c.loop-i-test.true, c.requires.count_le_most_sets.0)

pub write_row-end-requires : goal.write_row-end-requires
write_row-end-requires c =
    let i : ℕ = c.loop-i.i in
    let row : ℕ → List ℕ = λ b. let a = c.args in steps_in a.next.now a.blocks.now a.numbers.now a.n a.columns i (b * most_letters) 0 a.columns in
    let rest : List ℕ = let a = c.args in edges_in a.next.now a.blocks.now a.numbers.now a.n a.columns a.rows.now (i + 1) (a.count - (i + 1)) in
    let left : let a = c.args in let all = edges_in a.next.now a.blocks.now a.numbers.now a.n a.columns a.rows.now 0 a.count in
    Left (row c.wide-block.result ++ rest) c.loop-i.out c.loop-i.end (pasted a.out.now (4 + a.count) all) (4 + a.count + length all) = let a = c.args in
    let turn = edges_turn a.next.now a.blocks.now a.numbers.now a.n a.columns a.rows.now i a.count c.loop-i-test.true in
    left_as (turn ∙ ap (λ b. row b ++ rest) (sym c.wide-block.ensures)) c.loop-i.invariant.2 in
    let a = c.args in
    let there = c.loop-i-test.true in
    let fits = subst (RowFits a.next.now a.blocks.now a.numbers.now a.n a.columns) (sym c.wide-block.ensures) (c.requires.by_index (i) there) in
    record {
      n_le_most_sets = c.requires.n_le_most_sets;
      row_lt_most_sets =
          (omega (arith, there, c.requires.count_le_most_sets.0), c.requires.count_le_most_sets.1);
      row_fits = fits;
      columns_in_bounds = part_room (row c.wide-block.result) (rest) (left);
    }

pub loop-i-preserved : goal.loop-i-preserved
loop-i-preserved c =
    let i : ℕ = c.loop-i.i in
    let row : ℕ → List ℕ = λ b. let a = c.args in steps_in a.next.now a.blocks.now a.numbers.now a.n a.columns i (b * most_letters) 0 a.columns in
    let rest : List ℕ = let a = c.args in edges_in a.next.now a.blocks.now a.numbers.now a.n a.columns a.rows.now (i + 1) (a.count - (i + 1)) in
    let left : let a = c.args in let all = edges_in a.next.now a.blocks.now a.numbers.now a.n a.columns a.rows.now 0 a.count in
    Left (row c.wide-block.result ++ rest) c.loop-i.out c.loop-i.end (pasted a.out.now (4 + a.count) all) (4 + a.count + length all) = let a = c.args in
    let turn = edges_turn a.next.now a.blocks.now a.numbers.now a.n a.columns a.rows.now i a.count c.loop-i-test.true in
    left_as (turn ∙ ap (λ b. row b ++ rest) (sym c.wide-block.ensures)) c.loop-i.invariant.2 in
    let put = c.write_row-end in (
      omega (arith, c.loop-i-test.true),
      put.auto.out ∙ c.loop-i.invariant.1,
      left_after (row c.wide-block.result) (rest) (left) put.ensures,
    )

pub shape_of-out : goal.shape_of-out
shape_of-out c =
    c.loop-i.invariant.1

pub returns : goal.returns
returns c =
    let a = c.args in
    let l = c.loop-i in
    (left_done (edges_over a.next.now a.blocks.now a.numbers.now a.n a.columns a.rows.now l.i a.count c.loop-i-test.false) l.invariant.2).0
