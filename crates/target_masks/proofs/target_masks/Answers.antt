-- `target_masks` meets its contract: its array is cleared, so `fill_masks` may be called.
use Prim.Native.Nat.{ℕ}
use lib.ListN.{length-replicate}
use Rattle.automaton.specs.inner.Sizes.{masks_length}
use Rattle.target_masks.proofs.Laws.Places.{zeros-at}
use Rattle.target_masks.proofs.target_masks.Goals as goal

pub fill_masks-requires-clause-cleared : goal.fill_masks-requires-clause-cleared
fill_masks-requires-clause-cleared c = (length-replicate {A = ℕ} masks_length 0, zeros-at masks_length)
