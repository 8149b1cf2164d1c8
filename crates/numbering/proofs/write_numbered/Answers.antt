-- `write_numbered` meets its contract: the arrays fit, and are empty at first.
use borrow.Author.Rules.{rules}
use native.Mathlib.Omega.{arith}
use Rattle.block_numbers.proofs.Laws.Entered.{rows_none}
use Rattle.numbering.proofs.write_numbered.Goals as goal

pub find_blocks-found-requires : goal.find_blocks-found-requires
find_blocks-found-requires c =
    record {
      fits =
          record { all_next = omega arith; all_blocks = omega arith; states = c.requires.n_nonzero; letters = c.requires.le_columns; inside = c.requires.by_index };
      rows = rows_none;
    }
