-- The executable twin of `IsStep` (../Steps.antt): `steps_are` (proofs/StepsFrom.antt) says that `steps_from` lists exactly the steps. And labels.
use Rattle.std.specs.Prelude.{◌≡◌, ◌⊎◌, Bool, List, [], ◌∷◌, ◌++◌, ℕ, suc, ◌≤◌, eqb}
use Rattle.lts.specs.Sizes.{most_labels}
use Rattle.lts.specs.inner.Lists.{up_from, keep, or_else}
use Rattle.lts.specs.Idle.{idle_label}
use Rattle.lts.specs.Steps.{Step, Table, labels, loop_at}

abbrev pub idle_at : ℕ → Step
idle_at s = loop_at idle_label s

abbrev pub leaves : ℕ → Step → Bool
leaves s st = eqb st.from s

-- The steps that leave s, in the table's order.
unfoldable pub steps_from : Table → ℕ → List Step
steps_from t s = or_else (keep (leaves s) t.transitions) (idle_at s ∷ [])

-- The labels that steps may carry, rising.
abbrev pub alphabet : Table → List ℕ
alphabet t = up_from 0 (suc (labels t)) ++ (idle_label ∷ [])

-- A label that a step of some table may carry.
abbrev pub Carried : ℕ → Type 0
Carried l = (l ≤ most_labels) ⊎ (l ≡ idle_label)
