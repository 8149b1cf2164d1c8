-- `finding::find_blocks` meets its contract: what is left of the rows leads to those found.
use borrow.Author.Rules.{rules}
use Prim.Native.Nat.{◌-◌, ◌<◌}
use native.Mathlib.Omega.{arith}
use Rattle.deterministic.specs.Sizes.{most_sets}
use Rattle.block_numbers.proofs.Laws.Entered.{within-few, within_none, within-added}
use Rattle.block_numbers.proofs.Laws.Searching.{Searching, search-start, search_turn, search-rows, search-edges}
use Rattle.block_numbers.proofs.finding.find_blocks.Goals as goal

pub enter-count-requires : goal.enter-count-requires
enter-count-requires c =
    let f = c.requires.fits in
    let small : c.wide-block.result < c.args.n = omega (arith, c.wide-block.ensures, f.inside 0 f.states.0) in
    record {
      block_lt_most_sets = omega (arith, small, f.states.1);
      rows = c.requires.rows;
      block_len_bound =
          omega (arith, within-few (within-added (within_none _) c.wide-block.result small), f.states.1);
    }

pub loop-i-init : goal.loop-i-init
loop-i-init c =
    search-start c.requires.fits c.wide-block.ensures c.enter-count.ensures.rows_2 c.enter-count.ensures.rows_after

pub find_row-totals-requires : goal.find_row-totals-requires
find_row-totals-requires c =
    let f = c.requires.fits in
    let s = c.loop-i.invariant in record { n_le_most_sets = (f.states.1, f.inside); columns_le_most_letters = (f.letters.1, (c.loop-i-test.true, s.few_edges)); rows = (s.stand, s.within) }

pub overflow_add-i : goal.overflow_add-i
overflow_add-i c =
    omega (arith, c.loop-i-test.true, c.loop-i.invariant.stand.few)

pub loop-i-smaller : goal.loop-i-smaller
loop-i-smaller c =
    omega (arith, c.loop-i-test.true, c.loop-i.invariant.stand.few)

pub loop-i-preserved : goal.loop-i-preserved
loop-i-preserved c =
    search_turn c.requires.fits c.loop-i.invariant c.loop-i-test.true c.find_row-totals.ensures.rows_2.0 c.find_row-totals.ensures.rows_2.1
    c.find_row-totals.ensures.rows_after c.find_row-totals.ensures.edges_value

pub returns : goal.returns
returns c =
    let s = c.loop-i.invariant in
    record {
      stand = s.stand;
      within = s.within;
      all = search-rows c.requires.fits s c.loop-i-test.false;
      counted = search-edges c.requires.fits s c.loop-i-test.false;
    }
