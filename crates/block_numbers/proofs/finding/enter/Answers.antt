-- `finding::enter` meets its contract, by what stands for the block.
use borrow.Author.Rules.{rules}
use mathlib.Core.Path.{sym, ◌∙◌}
use Rattle.block_numbers.proofs.Laws.Entered.{new_fits, added_old, rows-longer, rows_new}
use Rattle.block_numbers.proofs.finding.enter.Goals as goal

pub bounds-rows-count : goal.bounds-rows-count
bounds-rows-count c =
    new_fits c.requires.rows c.args.block (sym c.wide-number.ensures ∙ c.if-number-eq0.true) c.requires.block_len_bound

pub returns-then-number-eq0 : goal.returns-then-number-eq0
returns-then-number-eq0 c =
    let none = sym c.wide-number.ensures ∙ c.if-number-eq0.true in
    let r = c.requires.rows in record {
      rows_2 = rows_new r c.args.block none c.requires.block_lt_most_sets c.requires.block_len_bound;
      rows_after =
          rows-longer r c.args.block none c.requires.block_lt_most_sets c.requires.block_len_bound;
    }

pub returns : goal.returns
returns c =
    record { rows_2 = c.requires.rows; rows_after = added_old c.requires.rows c.args.block (λ e. c.if-number-eq0.false (c.wide-number.ensures ∙ e)) }
