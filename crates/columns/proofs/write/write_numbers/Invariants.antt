-- `write_numbers` leaves the line of its numbers `pasted`: the invariant is that the columns of the first i are.
use Prim.Native.Nat.{◌+◌, ◌*◌, ◌≤◌}
use lib.ListN.{take}
use Rattle.columns.proofs.Laws.Pasting.{Pasting, columns}
use Rattle.columns.proofs.write.write_numbers.Given as goal

abbrev pub invariant-loop-i : goal.invariant-loop-i
invariant-loop-i l = Pasting l.initial.out l.at (columns (take l.i l.values)) l.out l.end × (l.i ≤ l.count) × (l.end ≤ l.at + 20 * l.i)
