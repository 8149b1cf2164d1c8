-- Worked examples: verdicts, run.
use mathlib.Core.Path.{◌≡◌, refl}
use mathlib.Core.List.{[]}
use Rattle.lts.specs.Steps.{Table, silent}
use Rattle.lts.specs.inner.Steps.{steps_from}
use Rattle.lts.proofs.Examples.{M}
use Rattle.actl.specs.Actions.{silent as silentStep, labels, in_set, meets, passes}
use Rattle.actl.specs.Formulas.{tru, ex, ax, eu, eu_then}
use Rattle.satisfaction.specs.inner.Holds.{holds, within, verdict}

-- Over table M: `EU[*;ack] T` and `AX[req] T` hold, `AX[ack] T` and `EX[ack] T` do not.
some_path_to_ack : verdict M (eu_then 6 4 tru) ≡ 1
unfolding holds within steps_from passes in_set silent
some_path_to_ack = refl

each-first-step-is_req : verdict M (ax (labels 2) tru) ≡ 1
unfolding holds within steps_from meets in_set silent
each-first-step-is_req = refl

no-first-step-is_ack : verdict M (ax (labels 4) tru) ≡ 0
unfolding holds within steps_from meets in_set silent
no-first-step-is_ack = refl

none_by_ack : verdict M (ex (labels 4) tru) ≡ 0
unfolding holds within steps_from meets in_set silent
none_by_ack = refl

-- One state, no labels, no transitions: `EX[*] T` does not hold, and `AX[.] T` does, by the idle step.
abbrev still : Table
still = record { states = 1; names = []; transitions = []; start = 0 }

idle_meets-no-set : verdict still (ex (labels 0) tru) ≡ 0
unfolding holds within steps_from meets in_set silent
idle_meets-no-set = refl

idle_is-silent : verdict still (ax silentStep tru) ≡ 1
unfolding holds within steps_from meets in_set silent
idle_is-silent = refl
