-- `node_count` meets its contract: a byte fits.
use native.Mathlib.Omega.{arith}
use Rattle.formulas.proofs.node.node_count.Goals as goal

pub overflow_cast-result : goal.overflow_cast-result
overflow_cast-result c =
    omega (arith, c.type_inv.formula 0)
