-- `kept::same_set` meets its contract: nothing is apart exactly if the masks so far are the same.
use Prim.Native.Nat.{ℕ, ◌+◌, ◌-◌, ◌*◌, ◌<◌, ◌≤◌}
use mathlib.Core.Path.{sym, ap, ◌∙◌}
use mathlib.Core.List.{List}
use native.Mathlib.Omega.{arith}
use borrow.Author.Rules.{rules}
use lib.ListN.{get_or}
use Rattle.lts.proofs.Laws.Decides.{decided_zero}
use Rattle.kept_sets.proofs.Laws.Kept.{base-few, set-at_word, set_is, Told, told_none, told_more}
use Rattle.kept_sets.proofs.kept.same_set.Given as goal

abbrev pub invariant-loop-s : goal.invariant-loop-s
invariant-loop-s l = (l.s ≤ l.states) × Told l.work l.base l.set l.s l.other
