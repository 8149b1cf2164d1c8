-- `byte` meets its contract: a byte is below 256.
use mathlib.Core.Path.{refl}
use native.Mathlib.Omega.{arith}
use Rattle.tables.proofs.prepared.byte.Goals as goal

pub overflow_cast-result : goal.overflow_cast-result
overflow_cast-result c =
    omega (arith, c.type_inv.table c.args.i)

pub returns : goal.returns
returns c =
    record { count = refl; fits = omega (arith, c.type_inv.table c.args.i) }
