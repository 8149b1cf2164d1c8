-- `is_silent` meets its contract: labels 0 and 99 are.
use mathlib.Core.Path.{◌≡◌, refl, sym, ap, subst}
use mathlib.Core.Bool.{◌||◌}
use lib.Dec.{eqb}
use borrow.Author.Tests.{ne_eqb}
use Rattle.lts.specs.Idle.{idle_label}
use Rattle.lts.specs.Steps.{silent}
use Rattle.table_steps.proofs.is_silent.Goals as goal

pub returns-then-label-eq0 : goal.returns-then-label-eq0
unfolding silent
returns-then-label-eq0 c =
    subst (λ l. eqb l 0 ≡ silent l) (sym c.if-label-eq0.true) refl

pub returns-else-label-eq0 : goal.returns-else-label-eq0
unfolding silent
returns-else-label-eq0 c =
    ap (λ b. b || eqb c.args.label idle_label) (sym (ne_eqb c.args.label 0 c.if-label-eq0.false))
