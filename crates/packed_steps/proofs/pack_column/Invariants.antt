-- `packing::pack_column` meets its contract: state by state.
use borrow.Author.Rules.{rules}
use mathlib.Core.Path.{◌≡◌, ap, ◌∙◌}
use mathlib.Core.Bool.{false}
use Prim.Native.Nat.{◌+◌, ◌-◌, ◌*◌, ◌≤◌}
use native.Mathlib.Omega.{arith}
use Rattle.deterministic.specs.Sizes.{most_letters}
use Rattle.packed_steps.specs.inner.Packed.{Nowhere, ColumnTo, target_in}
use Rattle.packed_steps.proofs.Laws.Packing.{column-start, column-more, column_done, target-read, nowhere-more}
use Rattle.packed_steps.proofs.pack_column.Given as goal

abbrev pub invariant-loop-k : goal.invariant-loop-k
invariant-loop-k l = (l.k ≤ l.n) × ColumnTo l.next l.n l.c l.i l.k l.initial.work l.work × (l.some ≡ false → Nowhere l.next l.n l.c l.k)
