-- The silent labels are 0 and 99; of the labels that a step may carry all others are 1 to 40.
use mathlib.Core.Path.{◌≡◌, refl, ap, ◌∙◌}
use mathlib.Core.Logic.{◌⊎◌, inl, inr, ⊎_map}
use mathlib.Core.Bool.{Bool, true, false, true≢false, ◌||◌}
use Prim.Native.Nat.{ℕ, ◌≤◌, ◌<◌}
use native.Mathlib.Omega.{arith}
use lib.Dec.{eqb}
use borrow.Author.Tests.{eqb-true, ne_eqb}
use Rattle.lts.specs.Sizes.{most_labels}
use Rattle.lts.specs.Idle.{idle_label}
use Rattle.lts.specs.Steps.{silent}
use Rattle.lts.specs.inner.Steps.{Carried}
use Rattle.lts.proofs.Booleans.{or-true-of}

pub zero-silent : silent 0 ≡ true
unfolding silent
zero-silent = refl

pub idle_silent : silent idle_label ≡ true
unfolding silent
idle_silent = refl

pub silent-of : (a : ℕ) → silent a ≡ true → (a ≡ 0) ⊎ (a ≡ idle_label)
unfolding silent
silent-of a e = ⊎_map (eqb-true a 0) (eqb-true a idle_label) (or-true-of (eqb a 0) (eqb a idle_label) e)

pub heard : (a : ℕ) → 1 ≤ a → a < idle_label → silent a ≡ false
unfolding silent
heard a h k = rw (ne_eqb a 0 (λ e. omega arith), ne_eqb a idle_label (λ e. omega arith))

-- Above 0 the idle step's alone is silent.
pub idle_alone : (a : ℕ) → 1 ≤ a → silent a ≡ eqb a idle_label
unfolding silent
idle_alone a h = ap (λ b. b || eqb a idle_label) (ne_eqb a 0 (λ e. omega arith))

-- Of the labels that a table's transitions may have, label 0 alone is silent, as 01 has it.
pub written_silence : (a : ℕ) → a ≤ most_labels → silent a ≡ eqb a 0
unfolding silent
written_silence a h = ap (λ b. eqb a 0 || b) (ne_eqb a idle_label (λ e. omega arith)) ∙ or-false (eqb a 0)
  where
    or-false : (b : Bool) → (b || false) ≡ b
    or-false true = refl
    or-false false = refl

pub carried_heard : {a : ℕ} → Carried a → silent a ≡ false → a ≤ most_labels
unfolding silent
carried_heard (inl h) e = h
carried_heard {a} (inr d) e = absurd (true≢false (rw d at e))
