-- Unending paths.
use Rattle.std.specs.Prelude.{◌≡◌, ℕ, suc}
use Rattle.lts.specs.Steps.{Step, Table, IsStepWith}
use Rattle.lts.specs.Idle.{idle_label}

-- 01: "An unending run from the start is a function that gives each whole number from 0 a step of the table, idle steps included: step 0
-- leaves the start, each later one the state that the one before reached." The same from any state s, if idle steps carry label i.
pub record RunWith (i : ℕ) (t : Table) (s : ℕ) : Type 0 where
  pub step : ℕ → Step
  pub starts : (step 0).from ≡ s
  pub taken : (n : ℕ) → IsStepWith i t (step n)
  pub follows : (n : ℕ) → (step (suc n)).from ≡ (step n).to

abbrev pub Run : Table → ℕ → Type 0
Run t s = RunWith idle_label t s
