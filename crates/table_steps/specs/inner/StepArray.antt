-- All steps of a table in one array, idle steps included, by the state that they leave: a step is the number label x 256 + target state.
use Rattle.std.specs.Prelude.{◌≡◌, cond, List, [], ◌∷◌, ◌++◌, map, ℕ, suc, ◌+◌, ◌-◌, ◌*◌, ◌/◌, ◌%◌, ◌≤◌, ◌<◌, ltb, length, get_or, take}
use Rattle.lts.specs.Sizes.{most_states}
use Rattle.lts.specs.inner.Sizes.{most_steps}
use Rattle.lts.specs.inner.Lists.{up_from}
use Rattle.lts.specs.Steps.{Step, Table}
use Rattle.lts.specs.inner.Steps.{Carried, steps_from}
use Rattle.lts.specs.declared.spans.Span.{Span}

abbrev pub step_code : Step → ℕ
step_code st = st.label * 256 + st.to

-- The step at j, as one that leaves s.
abbrev pub step_at : List ℕ → ℕ → ℕ → Step
step_at steps s j = record { from = s; label = get_or steps j 0 / 256; to = get_or steps j 0 % 256 }

-- The steps from a to before b, as ones that leave s.
abbrev pub steps_between : List ℕ → ℕ → ℕ → ℕ → List Step
steps_between steps s a b = map (step_at steps s) (up_from a (b - a))

-- Where the steps of state s stand, and the steps.
abbrev pub span_of : List ℕ → ℕ → Span
span_of firsts s = record { from = get_or firsts s 0; to = get_or firsts (s + 1) 0 }

abbrev pub steps_in : List ℕ → List ℕ → ℕ → List Step
steps_in steps firsts s = steps_between steps s (span_of firsts s).from (span_of firsts s).to

-- Spans in the array, of steps that have a label which masks hold.
pub record StepsFit (steps firsts : List ℕ) : Type 0 where
  pub ordered : (s : ℕ) → s < most_states → (span_of firsts s).from ≤ (span_of firsts s).to
  pub few : (s : ℕ) → s < most_states → (span_of firsts s).to ≤ most_steps
  pub labelled : (s j : ℕ) → s < most_states → (span_of firsts s).from ≤ j → j < (span_of firsts s).to → Carried (step_at steps s j).label

-- The arrays of a table: those that stand there for s are the steps that leave s, in the table's order.
pub record StepsOf (t : Table) (steps firsts : List ℕ) : Type 0 where
  pub fit : StepsFit steps firsts
  pub leaving : (s : ℕ) → s < most_states → steps_in steps firsts s ≡ steps_from t s

-- How many of the steps leave a state below s.
abbrev pub exits_below : List Step → ℕ → ℕ
exits_below [] s = 0
exits_below (st ∷ l) s = cond (ltb st.from s) (suc (exits_below l s)) (exits_below l s)

-- A part is put behind the first `at` numbers of an array, which then are `end` numbers.
pub record PutBehind (part : List ℕ) (at : ℕ) (before : List ℕ) (end : ℕ) (after : List ℕ) : Type 0 where
  pub long : length after ≡ length before
  pub ends : end ≡ at + length part
  pub put : take end after ≡ take at before ++ part

-- The first step from `from` on, before `to`, that has another label.
pub record LabelEnds (steps : List ℕ) (to label from r : ℕ) : Type 0 where
  pub begins : from ≤ r
  pub last : r ≤ to
  pub same : (k : ℕ) → from ≤ k → k < r → get_or steps k 0 / 256 ≡ label
  pub other : r < to → get_or steps r 0 / 256 ≡ label → ⊥
