-- `put_pair` meets its contract: two stores put the two bytes of a number in their place.
use borrow.Author.Rules.{rules}
use Prim.Native.Nat.{◌/◌, ◌%◌}
use native.Mathlib.Omega.{arith}
use lib.ListN.{length-set}
use Rattle.listing.proofs.Laws.Stores.{two_stores}
use Rattle.listing.proofs.put_pair.Goals as goal

pub bounds-out-at-2 : goal.bounds-out-at-2
bounds-out-at-2 c =
    simp length-set (omega arith)

pub shape_of-out : goal.shape_of-out
shape_of-out c =
    simp length-set

pub returns : goal.returns
returns c =
    two_stores _ _ _ _ c.requires
