-- `answer_each` meets its contract: the answers below i are written, each from the flags of one labelling.
use Prim.Native.Nat.{◌≤◌}
use lib.ListN.{length}
use Rattle.verdicts.proofs.Laws.Answering.{AnsweredBelow}
use Rattle.verdicts.proofs.answer_each.Given as goal

abbrev pub invariant-loop-i : goal.invariant-loop-i
invariant-loop-i l = (l.i ≤ length l.starts) × AnsweredBelow l.flags l.starts l.initial.answers l.i l.answers l.joint
