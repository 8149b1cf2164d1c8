-- The short forms of Definition 3 (document 000), written out, and what they mean in plain terms.
use Rattle.std.specs.Prelude.{◌≡◌, true, ℕ}
use Rattle.lts.specs.Steps.{Step, Table, IsStep}
use Rattle.actl.specs.Actions.{Action, Mask, in_set, labels}
use Rattle.actl.specs.Formulas.{Formula, not, or, ex, eu}
use Rattle.actl.specs.Meaning.{labels_of}
use Rattle.satisfaction.specs.Runs.{Run}
use Rattle.satisfaction.specs.Satisfaction.{Sat}

-- The mask of `*`: every label of the table.
abbrev pub all_labels : Table → Mask
all_labels t = labels_of t.names Action.any

-- 000: "φ ∧ φ' for ¬(¬φ ∨ ¬φ')"
abbrev pub both : Formula → Formula → Formula
both f g = not (or (not f) (not g))

-- 000: "∃Fφ for ∃(true U φ)". The mask a is that of all labels.
abbrev pub somewhere : Mask → Formula → Formula
somewhere a f = eu a f

-- 000: "∀Gφ for ¬∃F¬φ"
abbrev pub everywhere : Mask → Formula → Formula
everywhere a f = not (somewhere a (not f))

-- 000: "⟨χ⟩φ for ∃X_χ φ". The mask m is κ(χ).
abbrev pub after_some : Mask → Formula → Formula
after_some m f = ex (labels m) f

-- 000: "[χ]φ for ¬∃X_χ¬φ"
abbrev pub after_every : Mask → Formula → Formula
after_every m f = not (after_some m (not f))

-- The state r is on some path from s.
abbrev pub Reachable : Table → ℕ → ℕ → Type 0
Reachable t s r = (p : Run t s) × (i : ℕ) × ((p.step i).from ≡ r)

-- Some state on some path from s satisfies f.
abbrev pub HoldsSomewhere : Table → Formula → ℕ → Type 0
HoldsSomewhere t f s = (r : ℕ) × Reachable t s r × Sat t f r

-- Every state on every path from s satisfies f.
abbrev pub HoldsEverywhere : Table → Formula → ℕ → Type 0
HoldsEverywhere t f s = (r : ℕ) → Reachable t s r → Sat t f r

-- Some step from s with a label in m leads to f. A silent step has no label in any m.
abbrev pub HoldsAfterSome : Table → Mask → Formula → ℕ → Type 0
HoldsAfterSome t m f s = (st : Step) × (st.from ≡ s) × IsStep t st × (in_set m st.label ≡ true) × Sat t f st.to

-- Every step from s with a label in m leads to f.
abbrev pub HoldsAfterEvery : Table → Mask → Formula → ℕ → Type 0
HoldsAfterEvery t m f s = (st : Step) → st.from ≡ s → IsStep t st → in_set m st.label ≡ true → Sat t f st.to
