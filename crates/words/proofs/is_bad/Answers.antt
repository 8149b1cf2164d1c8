-- `is_bad` meets its contract: of the letters above the label count the idle step's alone is silent.
use mathlib.Core.Path.{sym, ap, ◌∙◌}
use mathlib.Core.Bool.{not, ◌&&◌}
use native.Mathlib.Omega.{arith}
use lib.Dec.{eqb}
use borrow.Author.Tests.{lt-ltb, le-ltb}
use Rattle.lts.specs.Idle.{idle_label}
use Rattle.lts.proofs.Silence.{idle_alone}
use Rattle.words.proofs.is_bad.Goals as goal

pub returns-then-labels-letter : goal.returns-then-labels-letter
returns-then-labels-letter c =
    let a = c.args in
    let above = c.if-labels-letter.true in
    ap not (c.is_silent.ensures ∙ idle_alone a.letter (omega (arith, above))) ∙ sym (ap (λ b. b && not (eqb a.letter idle_label)) (lt-ltb a.labels a.letter above))

pub returns-else-labels-letter : goal.returns-else-labels-letter
returns-else-labels-letter c =
    let a = c.args in
    let e = le-ltb a.labels a.letter (omega (arith, c.if-labels-letter.false)) in
    e ∙ sym (ap (λ b. b && not (eqb a.letter idle_label)) e)
