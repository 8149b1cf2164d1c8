-- `still` meets its contract.
use borrow.Author.Rules.{rules}
use mathlib.Core.Path.{sym, ap}
use mathlib.Core.Bool.{◌&&◌}
use lib.Dec.{eqb}
use Rattle.merging.proofs.still.Goals as goal

pub returns-then-steady : goal.returns-then-steady
returns-then-steady c =
    let a = c.args in
    ap (λ b. b && eqb a.block a.before) (sym c.if-steady.true)
