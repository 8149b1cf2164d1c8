-- `keep_columns` meets its contract: one column more is kept each turn.
use Prim.Native.Nat.{◌≤◌}
use Rattle.columns.proofs.Laws.Kept.{KeptBelow}
use Rattle.columns.proofs.kept.keep_columns.Given as goal

abbrev pub invariant-loop-n : goal.invariant-loop-n
invariant-loop-n l = KeptBelow l.initial.kept l.n l.kept × (l.n ≤ l.count)
