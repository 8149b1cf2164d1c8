-- `finding::find_row` meets its contract: what is left of the entries leads to the rows and the count at the end.
use borrow.Author.Rules.{rules}
use mathlib.Core.Path.{◌≡◌, refl, sym, ap, ◌∙◌, subst}
use Prim.Native.Nat.{ℕ, ◌+◌, ◌-◌, ◌*◌, ◌<◌, ◌≤◌}
use native.Mathlib.Omega.{arith}
use lib.ListN.{get_or, take}
use lib.Seq.{get_or-take}
use Rattle.lts.proofs.Lists.{get_d_mem}
use Rattle.deterministic.specs.Sizes.{most_sets, most_letters}
use Rattle.block_numbers.specs.inner.Found.{Rows, Within, taken_from, count_from}
use Rattle.block_numbers.proofs.Laws.Entered.{rows-length, taken_turn, taken_over, count_turn, count_over, count-few}
use Rattle.block_numbers.proofs.finding.find_row.Given as goal

abbrev pub invariant-loop-at : goal.invariant-loop-at
invariant-loop-at l = Rows l.rows l.numbers l.totals.rows × Within l.n (take l.totals.rows l.rows)
    × (taken_from l.next l.blocks l.n l.at (l.end - l.at) (take l.totals.rows l.rows) ≡ taken_from l.next l.blocks l.n l.first (l.end - l.first) (take l.initial.totals.rows l.initial.rows))
    × (l.totals.edges + count_from l.next l.blocks l.n l.at (l.end - l.at) ≡ l.initial.totals.edges + count_from l.next l.blocks l.n l.first (l.end - l.first))
