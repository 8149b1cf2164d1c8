-- Definition 3 of document 000: satisfaction, over unending paths. 01: "Where a path there is a row of states only, ours is a row of steps".
use Rattle.std.specs.Prelude.{◌≡◌, ◌⊎◌, true, ℕ, ◌<◌}
use Rattle.lts.specs.Steps.{Table}
use Rattle.lts.specs.Idle.{idle_label}
use Rattle.actl.specs.Actions.{in_set, meets, passes}
use Rattle.actl.specs.Formulas.{Formula, tru, not, or, ex, ax, eu, eu_then}
use Rattle.satisfaction.specs.Runs.{RunWith}

-- s ⊨ f, if idle steps carry label i. The first arm of document 000's until is "true" in 01's fragment and says nothing.
abbrev pub SatWith : ℕ → Table → Formula → ℕ → Type 0
-- s ⊨ true: always
SatWith i t tru s = Unit {0}
-- s ⊨ ¬f iff not s ⊨ f
SatWith i t (not f) s = SatWith i t f s → ⊥
-- s ⊨ f ∨ g iff s ⊨ f or s ⊨ g
SatWith i t (or f g) s = SatWith i t f s ⊎ SatWith i t g s
-- s ⊨ ∃X_χ f, ∃X_τ f: for some path from s, its first step is in κ(χ), or silent, and leads to f
SatWith i t (ex c f) s = (p : RunWith i t s) × (meets c (p.step 0).label ≡ true) × SatWith i t f (p.step 0).to
-- s ⊨ ∀X_χ f, ∀X_τ f: the same for all paths from s
SatWith i t (ax c f) s = (p : RunWith i t s) → (meets c (p.step 0).label ≡ true) × SatWith i t f (p.step 0).to
-- s ⊨ ∃(true_χ U f): for some path from s and some n, π(n) ⊨ f, and each step before is silent or in κ(χ)
SatWith i t (eu a f) s = (p : RunWith i t s) × (n : ℕ) × ((j : ℕ) → j < n → passes a (p.step j).label ≡ true) × SatWith i t f (p.step n).from
-- s ⊨ ∃(true_χ U_χ' f): the same, and then one step in κ(χ') that leads to f
SatWith i t (eu_then a b f) s = (p : RunWith i t s) × (n : ℕ) × ((j : ℕ) → j < n → passes a (p.step j).label ≡ true) × (in_set b (p.step n).label ≡ true) × SatWith i t f (p.step n).to

abbrev pub Sat : Table → Formula → ℕ → Type 0
Sat t f s = SatWith idle_label t f s
