-- `packing::target_in` meets its contract, by whether the target is a state.
use mathlib.Core.Path.{sym}
use native.Mathlib.Omega.{arith}
use Rattle.packed_steps.proofs.Laws.Packing.{target_is, target_none}
use Rattle.packed_steps.proofs.target_in.Goals as goal

pub returns-then-to-n : goal.returns-then-to-n
returns-then-to-n c =
    let a = c.args in record { value = sym (target_is a.n a.to c.if-to-n.true); upper_bound = omega arith }

pub returns-else-to-n : goal.returns-else-to-n
returns-else-to-n c =
    let a = c.args in record { value = sym (target_none a.n a.to c.if-to-n.false); upper_bound = omega arith }
