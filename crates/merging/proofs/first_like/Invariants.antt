-- `first_like` meets its contract: no state passed is a block like it.
use borrow.Author.Rules.{rules}
use Prim.Native.Nat.{ℕ, ◌-◌, ◌<◌, ◌≤◌}
use native.Mathlib.Omega.{arith}
use lib.ListN.{get_or}
use Rattle.lts.proofs.Laws.Decides.{from_more}
use Rattle.merging.specs.inner.Alike.{IsBlock}
use Rattle.merging.proofs.first_like.Given as goal

abbrev pub invariant-loop-j : goal.invariant-loop-j
invariant-loop-j l = (i : ℕ) → get_or l.old l.k 0 ≤ i → i < l.j → IsBlock l.work l.marks l.old l.new l.many l.k i → ⊥
