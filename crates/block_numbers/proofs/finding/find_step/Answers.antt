-- `finding::find_step` meets its contract, by whether the entry leads to a state.
use borrow.Author.Rules.{rules}
use mathlib.Core.Path.{◌≡◌, sym, ap, ◌∙◌, subst}
use mathlib.Core.List.{List}
use Prim.Native.Nat.{ℕ, ◌<◌, ◌≤◌}
use native.Mathlib.Omega.{arith}
use lib.ListN.{get_or, take}
use Rattle.block_numbers.specs.inner.Found.{added, Within, goal}
use Rattle.block_numbers.proofs.Laws.Entered.{within-few, within-added, count_none, count-one, taken_none, taken-one}
use Rattle.block_numbers.proofs.finding.find_step.Goals as goal

pub returns-then-n-target : goal.returns-then-n-target
returns-then-n-target c =
    let a = c.args in
    let none : a.n ≤ get_or a.next.now a.at 0 = omega (arith, c.if-n-target.true, c.wide-target.ensures) in
    let edges = count_none a.next.now a.blocks.now a.n a.at none in
    record { rows_2 = c.requires.rows; rows_after = sym (taken_none a.next.now a.blocks.now a.n a.at (take a.t.rows a.rows.now) none); edges_value = omega (arith, edges) }

pub enter-count-requires : goal.enter-count-requires
enter-count-requires c =
    let rows : List ℕ = take c.args.t.rows c.args.rows.now in
    let leads : let a = c.args in get_or a.next.now a.at 0 < a.n = omega (arith, c.if-n-target.false, c.wide-target.ensures) in
    let block-is : let a = c.args in c.wide-block.result ≡ goal a.next.now a.blocks.now a.n a.at = c.wide-block.ensures ∙ ap (λ k. get_or c.args.blocks.now k 0) c.wide-target.ensures in
    let small : c.wide-block.result < c.args.n = omega (arith, block-is, c.requires.n_le_most_sets.1 (get_or c.args.next.now c.args.at 0) leads) in
    let within : Within c.args.n (added rows c.wide-block.result) = within-added c.requires.rows.1 c.wide-block.result small in
    let few = c.requires.n_le_most_sets.0 in record { block_lt_most_sets = omega (arith, small, few); rows = c.requires.rows.0; block_len_bound = omega (arith, within-few (within), few) }

pub returns : goal.returns
returns c =
    let rows : List ℕ = take c.args.t.rows c.args.rows.now in
    let leads : let a = c.args in get_or a.next.now a.at 0 < a.n = omega (arith, c.if-n-target.false, c.wide-target.ensures) in
    let block-is : let a = c.args in c.wide-block.result ≡ goal a.next.now a.blocks.now a.n a.at = c.wide-block.ensures ∙ ap (λ k. get_or c.args.blocks.now k 0) c.wide-target.ensures in
    let small : c.wide-block.result < c.args.n = omega (arith, block-is, c.requires.n_le_most_sets.1 (get_or c.args.next.now c.args.at 0) leads) in
    let within : Within c.args.n (added rows c.wide-block.result) = within-added c.requires.rows.1 c.wide-block.result small in
    let a = c.args in
    let all = c.enter-count.ensures.rows_after ∙ (ap (added (rows)) (block-is) ∙ sym (taken-one a.next.now a.blocks.now a.n a.at (rows) (leads))) in
    record {
      rows_2 = (c.enter-count.ensures.rows_2, subst (Within a.n) (sym c.enter-count.ensures.rows_after) (within));
      rows_after =
          all;
      edges_value = omega (arith, count-one a.next.now a.blocks.now a.n a.at (leads));
    }
