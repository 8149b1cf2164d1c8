-- `same_targets` meets its contract: the columns passed lead to the same blocks.
use mathlib.Core.Path.{sym, ◌∙◌}
use Prim.Native.Nat.{◌-◌, ◌≤◌}
use native.Mathlib.Omega.{arith}
use Rattle.merging.specs.inner.Alike.{SameIn}
use Rattle.lts.proofs.Laws.Decides.{decided_yes, decided_no}
use Rattle.merging.proofs.Laws.Looked.{same_more}
use Rattle.merging.proofs.same_targets.Given as goal

abbrev pub invariant-loop-i : goal.invariant-loop-i
invariant-loop-i l = (l.i ≤ l.many) × SameIn l.work l.old l.i l.j l.k
