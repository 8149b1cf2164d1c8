-- `packing::pack` meets its contract: column by column.
use mathlib.Core.Path.{◌≡◌, refl, ◌∙◌, subst}
use Prim.Native.Nat.{ℕ, ◌-◌, ◌≤◌}
use native.Mathlib.Omega.{arith}
use lib.ListN.{length, drop}
use Rattle.deterministic.specs.Sizes.{work_length}
use Rattle.packed_steps.specs.inner.Packed.{Packed}
use Rattle.packed_steps.proofs.Laws.Packing.{packed_none, packed_count}
use Rattle.packed_steps.proofs.pack.Given as goal

abbrev pub invariant-loop-c : goal.invariant-loop-c
invariant-loop-c l = (l.c ≤ l.columns) × Packed l.next l.n l.c l.work l.many × (length l.work ≡ length l.initial.work) × (drop work_length l.work ≡ drop work_length l.initial.work)
