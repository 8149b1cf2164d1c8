-- The executable twin of satisfaction (Satisfaction.antt): `holds-is_satisfaction` (proofs/Satisfaction.antt) makes `holds` equal to `Sat`.
-- A test over the steps that leave each state; a path longer than the table has transitions need not be searched.
use Rattle.std.specs.Prelude.{Bool, true, cond, not as negate, ◌&&◌, ◌||◌, ℕ, zero, suc, length}
use Rattle.lts.specs.Lists.{any_of}
use Rattle.lts.specs.Lists.{every}
use Rattle.lts.specs.Steps.{Step, Table}
use Rattle.lts.specs.inner.Steps.{steps_from}
use Rattle.actl.specs.Actions.{Mask, in_set, meets, passes}
use Rattle.actl.specs.Formulas.{Formula, tru, not, or, ex, ax, eu, eu_then}

-- Some path of at most n steps that pass leads to a state of the goal.
unfoldable pub within : Table → Mask → (ℕ → Bool) → ℕ → ℕ → Bool
within t a goal zero s = goal s
within t a goal (suc n) s = goal s || any_of (λ st. passes a st.label && within t a goal n st.to) (steps_from t s)

-- Some step meets b and leads to a state of the goal.
abbrev pub enters : Table → Mask → (ℕ → Bool) → ℕ → Bool
enters t b goal s = any_of (λ st. in_set b st.label && goal st.to) (steps_from t s)

unfoldable pub holds : Table → Formula → ℕ → Bool
holds t tru s = true
holds t (not f) s = negate (holds t f s)
holds t (or f g) s = holds t f s || holds t g s
holds t (ex c f) s = any_of (λ st. meets c st.label && holds t f st.to) (steps_from t s)
holds t (ax c f) s = every (λ st. meets c st.label && holds t f st.to) (steps_from t s)
holds t (eu a f) s = within t a (holds t f) (length t.transitions) s
holds t (eu_then a b f) s = within t a (enters t b (holds t f)) (length t.transitions) s

-- 01: "verdict (1 holds, 0 not)"
abbrev pub verdict : Table → Formula → ℕ
verdict t F = cond (holds t F t.start) 1 0
