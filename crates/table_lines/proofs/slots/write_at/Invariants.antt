-- `write_at` leaves `pasted`: the invariant is that the first i bytes are.
use mathlib.Core.Path.{◌≡◌}
use Prim.Native.Nat.{◌≤◌}
use lib.ListN.{length}
use lib.Seq.{paste}
use Rattle.table_lines.proofs.slots.write_at.Given as goal

abbrev pub invariant-loop-i : goal.invariant-loop-i
invariant-loop-i l = (l.bytes ≡ paste l.initial.bytes l.at l.part l.i) × (l.i ≤ length l.part) × (length l.bytes ≡ length l.initial.bytes)
