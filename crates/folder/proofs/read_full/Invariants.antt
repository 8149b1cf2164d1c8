-- What was read fills the buffer's start; it grows, or the loop ends.
use Rattle.std.proofs.Common.{length, ◌-◌, ◌≤◌}
use Rattle.folder.proofs.read_full.Given as goal

abbrev pub invariant-loop-done : goal.invariant-loop-done
invariant-loop-done g l = l.done ≤ length l.buffer

abbrev pub decreases-loop-done : goal.decreases-loop-done
decreases-loop-done g l = length l.initial.buffer - l.done
