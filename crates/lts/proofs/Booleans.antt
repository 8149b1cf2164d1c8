-- Laws of tests.
use mathlib.Core.Path.{◌≡◌, refl, sym}
use mathlib.Core.Logic.{◌⊎◌, inl, inr}
use mathlib.Core.Bool.{Bool, true, false, true≢false, false≢true, not, ◌&&◌, ◌||◌}

-- Booleans.
pub and-true-of : (a b : Bool) → (a && b) ≡ true → (a ≡ true) × (b ≡ true)
and-true-of true b e = (refl, e)
and-true-of false b e = absurd (false≢true e)

pub and-true-to : (a b : Bool) → a ≡ true → b ≡ true → (a && b) ≡ true
and-true-to true b e d = d
and-true-to false b e d = absurd (false≢true e)

pub or-true-of : (a b : Bool) → (a || b) ≡ true → (a ≡ true) ⊎ (b ≡ true)
or-true-of true b e = inl refl
or-true-of false b e = inr e

pub or-true-left : (a b : Bool) → a ≡ true → (a || b) ≡ true
or-true-left true b e = refl
or-true-left false b e = absurd (false≢true e)

pub or_true_right : (a b : Bool) → b ≡ true → (a || b) ≡ true
or_true_right true b e = refl
or_true_right false b e = e

pub not-true : (a : Bool) → a ≡ false → not a ≡ true
not-true true e = absurd (true≢false e)
not-true false e = refl

pub not-false : (a : Bool) → not a ≡ true → a ≡ false
not-false true e = absurd (false≢true e)
not-false false e = refl

pub is_false : (a : Bool) → (a ≡ true → ⊥) → a ≡ false
is_false true h = absurd (h refl)
is_false false h = refl

pub same_truth : (a b : Bool) → (a ≡ true → b ≡ true) → (b ≡ true → a ≡ true) → a ≡ b
same_truth true b f g = sym (f refl)
same_truth false true f g = g refl
same_truth false false f g = refl

pub or-false : (a : Bool) → a ≡ (a || false)
or-false true = refl
or-false false = refl
