-- `reading::read_letter` meets its contract: what the states from s on bring is left.
use mathlib.Core.Path.{◌≡◌, sym, ap, ◌∙◌, subst}
use mathlib.Core.Bool.{true, false, cond}
use mathlib.Core.List.{List}
use Prim.Native.Nat.{ℕ, ◌-◌, ◌<◌}
use native.Mathlib.Omega.{arith}
use lib.ListN.{get_or}
use borrow.Author.Rules.{rules}
use Rattle.lts.specs.Steps.{Step}
use Rattle.lts.specs.inner.Steps.{Carried}
use Rattle.table_steps.specs.inner.StepArray.{steps_in}
use Rattle.frontier.specs.inner.Frontier.{has_state, emptied, through}
use Rattle.frontier.specs.inner.Reached.{places_read, state_read}
use Rattle.frontier.proofs.Laws.Through.{left, left_over, left_skip, left_turn}
use Rattle.word_reading.proofs.read_letter.Given as goal

abbrev pub invariant-loop-s : goal.invariant-loop-s
invariant-loop-s l = (l.s < 256 → has_state l.reached l.s ≡ true) ×
    (through (state_read (steps_in l.steps l.firsts) l.masks l.reached l.label) 256 0 l.initial.next ≡ left (state_read (steps_in l.steps l.firsts) l.masks l.reached l.label) 256 l.s l.next)

abbrev pub decreases-loop-s : goal.decreases-loop-s
decreases-loop-s l = 256 - l.s
