-- `fill_masks` meets its contract: the masks from place k on are right.
use Rattle.automaton.specs.inner.Sizes.{masks_length}
use mathlib.Core.Path.{◌≡◌, sym, ◌∙◌, subst}
use Prim.Native.Nat.{ℕ, ◌-◌, ◌≤◌, ◌<◌}
use native.Mathlib.Omega.{arith}
use lib.ListN.{length, get_or}
use Rattle.actl.specs.Formulas.{Formula}
use Rattle.target_masks.specs.inner.Masks.{Spells, MasksFit, MasksOf}
use Rattle.target_masks.proofs.Laws.Places.{masks_from, masks_next, masks_end}
use Rattle.target_masks.proofs.fill_masks.Given as goal

abbrev pub invariant-loop-k : goal.invariant-loop-k
invariant-loop-k l = (length l.masks ≡ masks_length) × MasksFit l.masks × ((F : Formula) → Spells l.formula l.ends F → MasksOf F l.k l.masks)
