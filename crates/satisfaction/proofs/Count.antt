-- How many members of a list pass a test: no more than there are, and more if the test lets a further one pass.
use mathlib.Core.Path.{◌≡◌, refl, ap, sym, ◌∙◌}
use mathlib.Core.Logic.{◌⊎◌, inl, inr}
use mathlib.Core.Bool.{Bool, true, false, true≢false}
use mathlib.Core.List.Memᴰ
use mathlib.Core.List.{List, [], ◌∷◌, Memᴰ}
use Prim.Native.Nat.{ℕ, suc, ◌≤◌, ◌<◌}
use native.Mathlib.Omega.{arith}
use lib.ListN.{length}
use Rattle.satisfaction.specs.inner.Count.{plus, count}

plus_le : (b : Bool) (m n : ℕ) → m ≤ n → plus b m ≤ suc n
plus_le true m n h = omega arith
plus_le false m n h = omega arith

plus_mono : (a b : Bool) (m n : ℕ) → (a ≡ true → b ≡ true) → m ≤ n → plus a m ≤ plus b n
plus_mono true true m n h k = omega arith
plus_mono true false m n h k = absurd (true≢false (sym (h refl)))
plus_mono false true m n h k = omega arith
plus_mono false false m n h k = k

module _ {A : Type 0} where
  pub count_le : (p : A → Bool) (l : List A) → count p l ≤ length l
  count_le p [] = omega arith
  count_le p (x ∷ l) = plus_le (p x) (count p l) (length l) (count_le p l)

  module _ (p q : A → Bool) (more : (x : A) → p x ≡ true → q x ≡ true) where
    pub count_mono : (l : List A) → count p l ≤ count q l
    count_mono [] = omega arith
    count_mono (x ∷ l) = plus_mono (p x) (q x) (count p l) (count q l) (more x) (count_mono l)

    -- Either nothing further passes, or the count is more.
    abbrev Same : List A → Type 0
    Same l = (x : A) → Memᴰ x l → q x ≡ true → p x ≡ true

    pub count-grows : (l : List A) → Same l ⊎ (count p l < count q l)
    count-grows [] = inl (λ x m e. absurd (Memᴰ.not-nil m))
    count-grows (x ∷ l) = step (p x) (q x) refl refl (count-grows l)
      where
        same : (q x ≡ true → p x ≡ true) → Same l → Same (x ∷ l)
        same h k y m e = elim (Memᴰ.cases_cons m) [ inl d ↦ ap p d ∙ h (ap q (sym d) ∙ e) | inr n ↦ k y n e ]

        step : (a b : Bool) → p x ≡ a → q x ≡ b → Same l ⊎ (count p l < count q l) → Same (x ∷ l) ⊎ (plus a (count p l) < plus b (count q l))
        step true b d e (inl k) = inl (same (λ z. d) k)
        step true true d e (inr h) = inr (omega arith)
        step true false d e (inr h) = absurd (true≢false (sym (more x d) ∙ e))
        step false true d e h = inr (omega (arith, count_mono l))
        step false false d e (inl k) = inl (same (λ z. absurd (true≢false (sym z ∙ e))) k)
        step false false d e (inr h) = inr h
