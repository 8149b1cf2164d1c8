-- `has_final` meets its contract: what the states from s on have is left.
use mathlib.Core.Path.{◌≡◌, refl, sym, ◌∙◌}
use mathlib.Core.Bool.{Bool, true, false}
use mathlib.Core.List.{List}
use Prim.Native.Nat.{ℕ, ◌-◌, ◌≤◌}
use native.Mathlib.Omega.{arith}
use lib.ListN.{get_or, drop}
use Rattle.lts.specs.Lists.{any_of}
use Rattle.frontier.specs.inner.Reached.{some_final}
use Rattle.row_sets.specs.inner.Sets.{has_final}
use Rattle.set_steps.specs.inner.Finals.{meets, FinalMask}
use Rattle.set_steps.proofs.Laws.Masks.{some-zero, some_more, meets-none}
use Rattle.set_steps.proofs.Laws.Tests.{any_same, any_here, any-later, any_empty}
use Rattle.set_steps.proofs.finals.has_final.Given as goal

abbrev pub invariant-loop-s : goal.invariant-loop-s
invariant-loop-s l = (l.s ≤ l.states) × (any_of (meets l.mask) l.set ≡ any_of (meets l.mask) (drop l.s l.set))
