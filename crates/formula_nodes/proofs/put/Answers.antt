-- A node behind the 40 is counted alone.
use mathlib.Core.Path.{refl}
use native.Mathlib.Omega.{arith}
use Rattle.formula_nodes.proofs.put.Goals as goal

pub returns-else-n-lt-NODES : goal.returns-else-n-lt-NODES
returns-else-n-lt-NODES c =
    record { ends = omega arith; long = refl; made = λ h. absurd (omega arith) }
