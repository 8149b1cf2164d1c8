-- `writing::put_step` meets its contract: three stores put the three bytes in their place.
use borrow.Author.Rules.{rules}
use native.Mathlib.Omega.{arith}
use lib.ListN.{length-set}
use Rattle.listing.proofs.Laws.Stores.{three_stores}
use Rattle.numbering.proofs.writing.put_step.Goals as goal

pub bounds-out-at-2 : goal.bounds-out-at-2
bounds-out-at-2 c =
    simp length-set (omega arith)

pub bounds-out-at-3 : goal.bounds-out-at-3
bounds-out-at-3 c =
    simp length-set (omega arith)

pub returns : goal.returns
returns c =
    three_stores _ _ _ _ _ c.requires.at_in_bounds
