-- What asking for the verdict answers.
use Rattle.std.specs.Prelude.{◌≡◌, ◌↔◌, List, ℕ}
use Rattle.lts.specs.Reply.{Reply, accepted, refusal}
use Rattle.lts.specs.Steps.{Table}
use Rattle.actl.specs.Formulas.{Formula}
use Rattle.actl.specs.FormulaReading.{on_prepared}
use Rattle.actl.specs.InPrepared.{InPrepared}
use Rattle.satisfaction.specs.Satisfaction.{Sat}
use Rattle.satisfaction.specs.inner.Holds.{verdict}

unfoldable pub verdict_replied : List ℕ → List ℕ → Reply ℕ
verdict_replied table formula = on_prepared table formula (λ t F. accepted (verdict t F))

-- An answer is 1 exactly if something is so, and 0 exactly if it is not.
abbrev pub TellsWhether : Type 0 → ℕ → Type 0
TellsWhether P answer = ((answer ≡ 1) ↔ P) × ((answer ≡ 0) ↔ (P → ⊥))

-- Demand 2: the verdict is that of the branching-time definition over unending paths (Definition 3). 01: "verdict (1 holds, 0 not)"
abbrev pub VerdictIs : Table → Formula → ℕ → Type 0
VerdictIs t F v = TellsWhether (Sat t F t.start) v

-- The verdict on prepared bytes is the one of the table and the formula in them.
abbrev pub VerdictAnswered : List ℕ → List ℕ → Reply ℕ → Type 0
VerdictAnswered table formula (accepted v) = InPrepared table formula (λ t F. VerdictIs t F v)
VerdictAnswered table formula (refusal number figure) = Unit {0}
