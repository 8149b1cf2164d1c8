-- `mask_place` meets its contract: one label more has its mask each turn.
use mathlib.Core.Path.{◌≡◌, subst}
use mathlib.Core.Logic.{inl}
use Prim.Native.Nat.{◌-◌, ◌≤◌, ◌<◌}
use native.Mathlib.Omega.{arith}
use Rattle.actl.specs.Sizes.{most_nodes}
use Rattle.automaton.specs.inner.Sizes.{place_count}
use Rattle.actl.specs.Formulas.{Formula}
use Rattle.target_masks.specs.inner.Masks.{Spells, MasksOn}
use Rattle.target_masks.proofs.Laws.Places.{place-few, place-shaped, masks_turn_at}
use Rattle.target_masks.proofs.mask_place.Given as goal

abbrev pub invariant-loop-l : goal.invariant-loop-l
invariant-loop-l turn = (turn.l ≤ place_count) × ((F : Formula) → Spells turn.formula turn.ends F → MasksOn F turn.k turn.l turn.masks)
