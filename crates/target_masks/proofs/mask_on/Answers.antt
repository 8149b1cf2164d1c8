-- `mask_on` meets its contract: the mask stands in the label's column.
use borrow.Author.Rules.{rules}
use mathlib.Core.Path.{ap}
use Prim.Native.Nat.{◌+◌, ◌*◌}
use lib.ListN.{get_or}
use Rattle.automaton.specs.inner.Sizes.{column_count}
use Rattle.target_masks.proofs.mask_on.Goals as goal

pub returns : goal.returns
returns c =
    let a = c.args in ap (λ n. get_or a.masks.now (a.place * column_count + n) 0) c.column.ensures.0
