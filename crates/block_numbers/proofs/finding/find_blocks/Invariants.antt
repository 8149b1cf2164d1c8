-- `finding::find_blocks` meets its contract: what is left of the rows leads to those found.
use borrow.Author.Rules.{rules}
use Prim.Native.Nat.{◌-◌, ◌<◌}
use native.Mathlib.Omega.{arith}
use Rattle.deterministic.specs.Sizes.{most_sets}
use Rattle.block_numbers.proofs.Laws.Entered.{within-few, within_none, within-added}
use Rattle.block_numbers.proofs.Laws.Searching.{Searching, search-start, search_turn, search-rows, search-edges}
use Rattle.block_numbers.proofs.finding.find_blocks.Given as goal

abbrev pub invariant-loop-i : goal.invariant-loop-i
invariant-loop-i l = Searching l.next l.blocks l.n l.columns l.i l.rows l.numbers l.totals.rows l.totals.edges

abbrev pub decreases-loop-i : goal.decreases-loop-i
decreases-loop-i l = most_sets - l.i
