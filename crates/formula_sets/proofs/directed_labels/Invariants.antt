-- `directed_labels` has the bits of the labels of a direction: the invariant is their mask so far.
use mathlib.Core.Path.{◌≡◌}
use Rattle.lts.specs.Directions.{label_direction}
use Rattle.actl.specs.Actions.{Action, mask_of}
use Rattle.actl.specs.inner.Readers.{names_in}
use Rattle.label_names.specs.inner.Names.{direction_in}
use Rattle.formula_sets.proofs.directed_labels.Given as goal

abbrev pub invariant-loop-k : goal.invariant-loop-k
invariant-loop-k l = l.mask ≡ mask_of (label_direction (names_in l.table)) l.k (Action.directed (direction_in l.wanted))
