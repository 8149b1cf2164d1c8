-- Three nodes are written before the moved ones, and one behind them.
use mathlib.Core.Path.{◌≡◌}
use Prim.Native.Nat.{◌+◌}
use native.Mathlib.Omega.{arith}
use Rattle.formula_nodes.proofs.Joining.{written-to, enclosed}
use Rattle.formula_nodes.proofs.conjoin.Goals as goal

pub returns : goal.returns
returns c =
    let n = c.args.n in
    let four : n + 3 + 1 ≡ n + 4 = omega arith in
    enclosed c.requires.0 c.requires.1 c.move_up.ensures c.put_dual.ensures (written-to four c.put.ensures)
