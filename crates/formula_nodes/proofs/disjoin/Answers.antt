-- The nodes move up by one, and nothing is written behind them.
use mathlib.Core.Path.{◌∙◌}
use Prim.Native.Nat.{◌+◌}
use Rattle.actl.proofs.ReadingNodes.{written_none}
use Rattle.formula_nodes.proofs.Joining.{enclosed}
use Rattle.formula_nodes.proofs.disjoin.Goals as goal

pub returns : goal.returns
returns c =
    let m = c.move_up.ensures in
    let p = c.put.ensures in
    enclosed c.requires.0 c.requires.1 m p (written_none (p.long ∙ (m.long ∙ c.requires.0)) (c.args.n + 1))
