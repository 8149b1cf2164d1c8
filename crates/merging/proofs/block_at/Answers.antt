-- `block_at` meets its contract.
use borrow.Author.Rules.{rules}
use mathlib.Core.Path.{ap}
use native.Mathlib.Omega.{arith}
use lib.ListN.{get_or}
use Rattle.merging.proofs.block_at.Goals as goal

pub returns : goal.returns
returns c =
    let a = c.args in
    ap (λ p. get_or a.old.now p 0) c.entry_at.ensures
