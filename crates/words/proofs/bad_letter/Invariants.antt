-- `bad_letter` meets its contract: the letters below i are labels.
use mathlib.Core.Path.{◌≡◌}
use Prim.Native.Nat.{◌≤◌}
use Rattle.automaton.specs.WordAsked.{bad_letter}
use Rattle.frontier.proofs.Laws.Left.{bad_left}
use Rattle.words.proofs.bad_letter.Given as goal

abbrev pub invariant-loop-i : goal.invariant-loop-i
invariant-loop-i l = (l.i ≤ 1024) × (bad_letter l.labels l.word ≡ bad_left l.labels l.word l.i)
