-- The measures of the walk's phases, which are the nodes that are left.
use Rattle.std.proofs.Common.{◌+◌, ◌*◌, ◌-◌, length}
use Rattle.formula_classes.proofs.+walk_walk_arms_walk_right.Given as goal

abbrev pub decreases-walk : goal.decreases-walk
decreases-walk l = (length l.kinds.now - l.k) * 2 + 1

abbrev pub decreases-walk_arms : goal.decreases-walk_arms
decreases-walk_arms l = (length l.kinds.now - l.k) * 2

abbrev pub decreases-walk_right : goal.decreases-walk_right
decreases-walk_right l = (length l.kinds.now - l.left.end) * 2 + 2
