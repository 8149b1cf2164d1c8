-- Answers to questions: known ones, and those that another answer gives; what holds from one number to before another.
use mathlib.Core.Path.{◌≡◌, sym, ◌∙◌, subst}
use mathlib.Core.Logic.{◌⊎◌, inl, inr}
use mathlib.Core.Bool.{Bool, true, false, true≢false, false≢true}
use Prim.Native.Nat.{ℕ, ◌+◌, ◌≤◌, ◌<◌}
use native.Mathlib.Nat.{eq-or-lt_of_le}
use native.Mathlib.Omega.{arith}
use lib.Bits.{bit_or, or_add_and, and_le_l, and_le_r}
use lib.Dec.{eqb}
use borrow.Author.Tests.{eqb-true, eqb-false}
use Rattle.lts.specs.inner.Answers.{Decides}

pub decided_yes : {P : Type 0} → P → Decides P true
decided_yes p = record { yes = λ e. p; no = λ e q. true≢false e }

pub decided_no : {P : Type 0} → (P → ⊥) → Decides P false
decided_no n = record { yes = λ e. absurd (false≢true e); no = λ e p. n p }

pub decided_by : {P Q : Type 0} {r : Bool} → Decides Q r → (Q → P) → (P → Q) → Decides P r
decided_by d f g = record { yes = λ e. f (d.yes e); no = λ e p. d.no e (g p) }

pub decided_test : {P : Type 0} (r t : Bool) → r ≡ t → (t ≡ true → P) → (P → t ≡ true) → Decides P r
decided_test r t e f g = record { yes = λ d. f (sym e ∙ d); no = λ d p. true≢false (sym (g p) ∙ (sym e ∙ d)) }

-- One number more.
-- Bytes taken together by `|` are zero exactly if both are.
pub together : (a b : ℕ) → ((bit_or a b ≡ 0) → (a ≡ 0) × (b ≡ 0)) × (a ≡ 0 → b ≡ 0 → bit_or a b ≡ 0)
together a b =
    let sum = or_add_and a b in
    let l = and_le_l a b in
    let r = and_le_r a b in
    ((λ e. (omega arith, omega arith)), λ e f. omega arith)

pub decided_zero : {P : Type 0} (n : ℕ) → (n ≡ 0 → P) → (P → n ≡ 0) → Decides P (eqb n 0)
decided_zero n f g = record { yes = λ e. f (eqb-true n 0 e); no = λ e p. eqb-false n 0 e (g p) }

pub from_more : (P : ℕ → Type 0) (i j : ℕ) → ((k : ℕ) → i ≤ k → k < j → P k) → P j → (k : ℕ) → i ≤ k → k < j + 1 → P k
from_more P i j all here k l m = step (eq-or-lt_of_le (omega arith))
  where
    step : (k ≡ j) ⊎ (k < j) → P k
    step (inl e) = subst P (sym e) here
    step (inr h) = all k l h
