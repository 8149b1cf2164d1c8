-- The next word starts behind the one before.
use Rattle.std.proofs.Common.{length, ◌-◌}
use Rattle.bench.proofs.asking.ask.Given as goal

abbrev pub decreases-loop-from : goal.decreases-loop-from
decreases-loop-from g l = length l.words - l.from
