-- `put_row` meets its contract: three stores put the bytes of a row in their place.
use borrow.Author.Rules.{rules}
use mathlib.Core.Path.{ap, ◌∙◌}
use mathlib.Core.List.{[], ◌∷◌}
use Prim.Native.Nat.{◌*◌}
use native.Mathlib.Omega.{arith}
use lib.ListN.{length-set}
use Rattle.automaton.specs.Bytes.{row_length}
use Rattle.columns.specs.inner.Write.{pasted}
use Rattle.listing.specs.inner.Places.{put_row}
use Rattle.listing.proofs.Laws.Stores.{bit_of_bool, three_stores}
use Rattle.listing.proofs.put_row.Goals as goal

pub bounds-out-at-2 : goal.bounds-out-at-2
bounds-out-at-2 c =
    simp length-set (omega arith)

pub bounds-out-at-3 : goal.bounds-out-at-3
bounds-out-at-3 c =
    simp length-set (omega arith)

pub shape_of-out : goal.shape_of-out
shape_of-out c =
    simp length-set

pub returns : goal.returns
unfolding put_row
returns c =
    let a = c.args in
    three_stores _ _ _ _ _ c.requires.row_length_in_bounds
    ∙ ap (λ f. pasted a.out.now (a.n * row_length) (a.place ∷ a.state ∷ f ∷ [])) (c.from.ensures ∙ bit_of_bool c.args.is_final)
