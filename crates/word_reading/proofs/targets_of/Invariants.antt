-- `reading::targets_of` meets its contract: what the places from k on add is left.
use mathlib.Core.Path.{◌≡◌, sym, ap, ◌∙◌}
use mathlib.Core.Bool.{true, false, cond}
use mathlib.Core.List.{List}
use Prim.Native.Nat.{ℕ, ◌+◌, ◌*◌, ◌-◌, ◌<◌}
use native.Mathlib.Omega.{arith}
use lib.Bits.{bit_or}
use lib.ListN.{get_or}
use Rattle.automaton.specs.inner.Sizes.{place_count, column_count}
use Rattle.target_masks.specs.inner.Masks.{mask_on}
use Rattle.bits.specs.inner.Bits.{bit_at}
use Rattle.frontier.specs.inner.Reached.{targets_added, targets_of}
use Rattle.frontier.proofs.Laws.Bits.{BitsFrom, bits_all, bits_some, bits_first, bits_rest}
use Rattle.frontier.proofs.Laws.Through.{left, left_over, left_skip, left_turn}
use Rattle.word_reading.proofs.targets_of.Given as goal

abbrev pub invariant-loop-k : goal.invariant-loop-k
invariant-loop-k l = BitsFrom l.places l.k l.rest × (l.k < 64 → bit_at l.places l.k ≡ true) ×
    (targets_of l.masks l.places l.label ≡ left (targets_added l.masks l.places l.label) place_count l.k l.found)

abbrev pub decreases-loop-k : goal.decreases-loop-k
decreases-loop-k l = place_count - l.k
