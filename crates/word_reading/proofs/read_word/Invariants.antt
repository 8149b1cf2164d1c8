-- `reading::read_word` meets its contract: the letters below i are read.
use mathlib.Core.Path.{◌≡◌, sym, ap, ◌∙◌}
use Prim.Native.Nat.{◌+◌, ◌-◌, ◌≤◌}
use native.Mathlib.Omega.{arith}
use lib.ListN.{length, drop}
use borrow.Author.Rules.{rules}
use Rattle.table_steps.specs.inner.StepArray.{steps_in}
use Rattle.frontier.specs.inner.Frontier.{nowhere, brought, all_places}
use Rattle.frontier.specs.inner.Reached.{word_read, root_reached}
use Rattle.frontier.proofs.Laws.Left.{word_turn, word_turns, word_over}
use Rattle.word_reading.proofs.read_word.Given as goal

abbrev pub invariant-loop-i : goal.invariant-loop-i
invariant-loop-i l = (l.i ≤ length l.word) ×
    (word_read (steps_in l.steps l.firsts) l.masks l.word (root_reached l.start) nowhere ≡ word_read (steps_in l.steps l.firsts) l.masks (drop l.i l.word) l.reached l.next)

abbrev pub decreases-loop-i : goal.decreases-loop-i
decreases-loop-i l = length l.word - l.i
