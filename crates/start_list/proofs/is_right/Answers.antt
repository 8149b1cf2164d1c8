-- `is_right` meets its contract.
use mathlib.Core.Path.{sym, ap, ◌∙◌}
use mathlib.Core.Bool.{◌&&◌}
use native.Mathlib.Omega.{arith}
use lib.Dec.{ltb}
use borrow.Author.Tests.{le-leb, lt-leb}
use Rattle.start_list.proofs.is_right.Goals as goal

pub returns-then-least-s : goal.returns-then-least-s
returns-then-least-s c =
    let a = c.args in
    sym (ap (λ b. b && ltb a.s a.states) (le-leb a.least a.s (omega (arith, c.if-least-s.true))))

pub returns-else-least-s : goal.returns-else-least-s
returns-else-least-s c =
    let a = c.args in
    let below = lt-leb a.least a.s (omega (arith, c.if-least-s.false)) in
    below ∙ sym (ap (λ b. b && ltb a.s a.states) below)
