-- `finding::find_row` meets its contract: what is left of the entries leads to the rows and the count at the end.
use borrow.Author.Rules.{rules}
use mathlib.Core.Path.{◌≡◌, refl, sym, ap, ◌∙◌, subst}
use Prim.Native.Nat.{ℕ, ◌+◌, ◌-◌, ◌*◌, ◌<◌, ◌≤◌}
use native.Mathlib.Omega.{arith}
use lib.ListN.{get_or, take}
use lib.Seq.{get_or-take}
use Rattle.lts.proofs.Lists.{get_d_mem}
use Rattle.deterministic.specs.Sizes.{most_sets, most_letters}
use Rattle.block_numbers.specs.inner.Found.{Rows, Within, taken_from, count_from}
use Rattle.block_numbers.proofs.Laws.Entered.{rows-length, taken_turn, taken_over, count_turn, count_over, count-few}
use Rattle.block_numbers.proofs.finding.find_row.Goals as goal

pub offset_bounds-rows-i : goal.offset_bounds-rows-i
offset_bounds-rows-i c =
    omega (arith, c.requires.columns_le_most_letters.1.0, c.requires.rows.0.few)

pub bounds-rows-i : goal.bounds-rows-i
bounds-rows-i c =
    omega (arith, c.requires.columns_le_most_letters.1.0, c.requires.rows.0.few)

pub overflow_mul-first : goal.overflow_mul-first
overflow_mul-first c =
    let row_small : get_or c.args.rows.now c.args.i 0 < c.args.n = let a = c.args in
    let w = c.requires.rows in
    let l = take a.t.rows a.rows.now in
    let m = get_d_mem l a.i 0 (omega (arith, rows-length w.0 0, c.requires.columns_le_most_letters.1.0)) in
    subst (λ (k : ℕ). k < a.n) (get_or-take a.t.rows a.rows.now a.i 0 c.requires.columns_le_most_letters.1.0) (w.1.inside (get_or l a.i 0) m) in
    let block-small : c.wide-block.result < 256 = omega (arith, c.wide-block.ensures, row_small, c.requires.n_le_most_sets.0) in
    omega (arith, block-small)

pub overflow_add-end : goal.overflow_add-end
overflow_add-end c =
    let row_small : get_or c.args.rows.now c.args.i 0 < c.args.n = let a = c.args in
    let w = c.requires.rows in
    let l = take a.t.rows a.rows.now in
    let m = get_d_mem l a.i 0 (omega (arith, rows-length w.0 0, c.requires.columns_le_most_letters.1.0)) in
    subst (λ (k : ℕ). k < a.n) (get_or-take a.t.rows a.rows.now a.i 0 c.requires.columns_le_most_letters.1.0) (w.1.inside (get_or l a.i 0) m) in
    let block-small : c.wide-block.result < 256 = omega (arith, c.wide-block.ensures, row_small, c.requires.n_le_most_sets.0) in
    omega (arith, block-small, c.requires.columns_le_most_letters.0)

pub loop-at-init : goal.loop-at-init
loop-at-init c =
    let w = c.requires.rows in (w.0, w.1, refl, refl)

pub find_step-totals-requires : goal.find_step-totals-requires
find_step-totals-requires c =
    let row_small : get_or c.args.rows.now c.args.i 0 < c.args.n = let a = c.args in
    let w = c.requires.rows in
    let l = take a.t.rows a.rows.now in
    let m = get_d_mem l a.i 0 (omega (arith, rows-length w.0 0, c.requires.columns_le_most_letters.1.0)) in
    subst (λ (k : ℕ). k < a.n) (get_or-take a.t.rows a.rows.now a.i 0 c.requires.columns_le_most_letters.1.0) (w.1.inside (get_or l a.i 0) m) in
    let block-small : c.wide-block.result < 256 = omega (arith, c.wide-block.ensures, row_small, c.requires.n_le_most_sets.0) in
    let a = c.args in
    let l = c.loop-at in
    let first = c.wide-block.result * most_letters in
    let end = first + a.columns in
    let count = count_from a.next.now a.blocks.now a.n in
    let counted : l.totals.edges + count l.at (end - l.at) ≡ a.t.edges + count first (end - first) = l.invariant.3 in
    let few = count-few a.next.now a.blocks.now a.n first (end - first) in
    let in_table : l.at < most_sets * most_letters = omega (arith, block-small, c.requires.columns_le_most_letters.0, c.loop-at-test.true) in
    record {
      n_le_most_sets = c.requires.n_le_most_sets;
      at_bound = (
        in_table,
        omega (
          arith,
          counted,
          few,
          c.requires.columns_le_most_letters.0,
          c.requires.columns_le_most_letters.1.0,
          c.requires.columns_le_most_letters.1.1,
          c.requires.rows.0.few,
        ),
      );
      rows = (l.invariant.0, l.invariant.1);
    }

pub loop-at-preserved : goal.loop-at-preserved
loop-at-preserved c =
    let a = c.args in
    let l = c.loop-at in
    let taken = c.loop-at-test.true in
    let end = c.wide-block.result * most_letters + a.columns in
    let rows = take l.totals.rows l.rows in
    let left = taken_turn a.next.now a.blocks.now a.n l.at end taken rows in
    let counted = count_turn a.next.now a.blocks.now a.n l.at end taken in (
      c.find_step-totals.ensures.rows_2.0,
      c.find_step-totals.ensures.rows_2.1,
      ap (taken_from a.next.now a.blocks.now a.n (l.at + 1) (end - (l.at + 1))) c.find_step-totals.ensures.rows_after ∙ (sym left ∙ l.invariant.2),
      omega (arith, c.find_step-totals.ensures.edges_value, counted, l.invariant.3),
    )

pub returns : goal.returns
returns c =
    let a = c.args in
    let l = c.loop-at in
    let done = c.loop-at-test.false in
    let first = c.wide-block.result * most_letters in
    let end = first + a.columns in
    let rows = take l.totals.rows l.rows in
    let begun = take a.t.rows a.rows.now in
    let at : first ≡ get_or a.rows.now a.i 0 * most_letters = ap (λ k. k * most_letters) c.wide-block.ensures in
    let wide : end - first ≡ a.columns = omega arith in
    let over = taken_over a.next.now a.blocks.now a.n l.at end done rows in
    let counted = count_over a.next.now a.blocks.now a.n l.at end done in
    let all : l.totals.edges ≡ a.t.edges + count_from a.next.now a.blocks.now a.n first (end - first) = omega (arith, counted, l.invariant.3) in
    record {
      rows_2 = (l.invariant.0, l.invariant.1);
      rows_after =
          sym over ∙ (l.invariant.2 ∙ (λ j. taken_from a.next.now a.blocks.now a.n (at j) (wide j) begun));
      edges_value =
          all ∙ (λ j. a.t.edges + count_from a.next.now a.blocks.now a.n (at j) (wide j));
    }
