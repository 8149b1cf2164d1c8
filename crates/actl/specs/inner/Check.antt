-- The check of prepared formula bytes, test by test.
use Rattle.std.specs.Prelude.{◌≡◌, Bool, ◌&&◌, List, ℕ, ◌-◌, eqb, get_or}
use Rattle.actl.specs.Sizes.{formula_length}
use Rattle.lts.specs.inner.Lists.{up_from}
use Rattle.lts.specs.Lists.{every}
use Rattle.lts.specs.inner.Answers.{is_some}
use Rattle.actl.specs.Formulas.{Formula, class_of}
use Rattle.actl.specs.Prepared.{Slot, slot_within}
use Rattle.actl.specs.inner.Prepared.{slot_at, prepared_formula}
use Rattle.actl.specs.inner.Shaped.{shaped}
use Rattle.actl.specs.inner.Walk.{kinds_of, kinds_in}

-- 01: "formula bytes that aren't the one form" are refused. Over a table of n labels.
abbrev pub is_prepared : ℕ → List ℕ → Bool
is_prepared n b = is_some (prepared_formula n b)

-- A slot of some node, with its sets within n labels.
abbrev pub slot_fits : ℕ → Slot → Bool
slot_fits n s = shaped s && slot_within n s

abbrev pub slots_fit : ℕ → List ℕ → ℕ → Bool
slots_fit n b count = every (λ k. slot_fits n (slot_at b k)) (up_from 0 count)

abbrev pub zeros_from : List ℕ → ℕ → Bool
zeros_from b from = every (λ i. eqb (get_or b i 0) 0) (up_from from (formula_length - from))

-- The kinds of the first nodes are those of a formula with a class.
abbrev pub SpelledClassed : List ℕ → ℕ → Type 0
SpelledClassed b count = (f : Formula) × (kinds_of f ≡ kinds_in b count) × (class_of f ≡ 0 → ⊥)
