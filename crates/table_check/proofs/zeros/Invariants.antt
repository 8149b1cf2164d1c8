-- `zeros` meets its contract: the bytes before i, taken together, are zero exactly if each of them is.
use mathlib.Core.Path.{◌≡◌}
use Prim.Native.Nat.{◌≤◌, ◌<◌}
use Rattle.lts.specs.inner.Check.{ZerosFrom}
use Rattle.table_check.proofs.zeros.Given as goal

abbrev pub invariant-loop-i : goal.invariant-loop-i
invariant-loop-i l = ((l.from ≤ l.i) × (l.from < l.i → l.i ≤ l.to)) × ((l.all ≡ 0 → ZerosFrom l.bytes l.from l.i) × (ZerosFrom l.bytes l.from l.i → l.all ≡ 0))
