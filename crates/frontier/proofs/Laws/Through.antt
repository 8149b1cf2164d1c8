-- Going through numbers one after the other: what is left of it, and what it comes to where each number adds something.
use mathlib.Core.Path.{◌≡◌, refl, sym, ap, ◌∙◌}
use mathlib.Core.Bool.{Bool, false, ◌||◌, or_assoc}
use Prim.Native.Nat.{ℕ, zero, suc, ◌+◌, ◌-◌, ◌≤◌, ◌<◌}
use native.Mathlib.Decide.{dec_lt}
use native.Mathlib.Numerals.{add-one}
use native.Mathlib.Omega.{arith}
use Rattle.lts.specs.inner.Lists.{up_from}
use Rattle.lts.specs.Lists.{any_of}
use Rattle.frontier.specs.inner.Frontier.{through, FirstFrom}
use Rattle.lts.proofs.Booleans.{or-false}

-- Numbers below n that are not gone through yet, from k on.
module _ {A : Type 0} (f : ℕ → A → A) (n : ℕ) where
  abbrev pub left : ℕ → A → A
  left k a = through f (n - k) k a

  pub left_over : (k : ℕ) (a : A) → n ≤ k → left k a ≡ a
  unfolding through
  left_over k a h = let none_left : n - k ≡ 0 = omega arith in ap (λ m. through f m k a) none_left

  pub left-next : (k : ℕ) (a : A) → k < n → left k a ≡ left (k + 1) (f k a)
  unfolding through
  left-next k a h =
      let more : n - k ≡ suc (n - (k + 1)) = omega arith in
      ap (λ m. through f m k a) more ∙ ap (λ j. through f (n - (k + 1)) j (f k a)) (sym (add-one k))

  -- Numbers that change nothing may be left out.
  module _ (p : ℕ → Bool) (idle : (j : ℕ) (a : A) → p j ≡ false → f j a ≡ a) where
    skip : (d k : ℕ) (a : A) → ((j : ℕ) → k ≤ j → j < k + d → p j ≡ false) → left k a ≡ left (k + d) a
    skip zero k a h = let same : k ≡ k + 0 = omega arith in ap (λ j. left j a) same
    skip (suc d) k a h = case (dec_lt k n) (skip d (k + 1) a (λ j x y. h j (omega arith) (omega arith)))
      where
        case : Dec (k < n) → left (k + 1) a ≡ left (k + 1 + d) a → left k a ≡ left (k + suc d) a
        case (yes x) more =
            let same : k + 1 + d ≡ k + suc d = omega arith in
            left-next k a x ∙ (ap (left (k + 1)) (idle k a (h k (omega arith) (omega arith))) ∙ (more ∙ ap (λ j. left j a) same))
        case (no x) more = left_over k a (omega arith) ∙ sym (left_over (k + suc d) a (omega arith))

    pub left_skip : {m k r : ℕ} (a : A) → FirstFrom p k m r → left k a ≡ left r a
    left_skip {m} {k} {r} a h =
        let far : k + (r - k) ≡ r = omega (arith, h.from) in
        skip (r - k) k a (λ j x y. h.none j x (omega (arith, h.from))) ∙ ap (λ j. left j a) far

    pub left_turn : {m k r : ℕ} (a b : A) → k < n → f k a ≡ b → FirstFrom p (k + 1) m r → left k a ≡ left r b
    left_turn {m} {k} a b h e g = left-next k a h ∙ (ap (left (k + 1)) e ∙ left_skip b g)

-- A test that number k adds h k to, of what is good.
module _ {A : Type 0} (f : ℕ → A → A) (g : A → Bool) (h : ℕ → Bool) (Good : A → Type 0) (limit : ℕ)
    (good : (k : ℕ) (a : A) → k < limit → Good a → Good (f k a))
    (adds : (k : ℕ) (a : A) → k < limit → Good a → g (f k a) ≡ (g a || h k)) where
  pub through-adds : (n k : ℕ) (a : A) → k + n ≤ limit → Good a → g (through f n k a) ≡ (g a || any_of h (up_from k n))
  unfolding through
  through-adds zero k a b x = or-false (g a)
  through-adds (suc n) k a b x =
      let here : k < limit = omega arith in
      through-adds n (suc k) (f k a) (omega arith) (good k a here x)
      ∙ (ap (λ c. c || any_of h (up_from (suc k) n)) (adds k a here x) ∙ or_assoc (g a) (h k) (any_of h (up_from (suc k) n)))

pub through_good : {A : Type 0} (f : ℕ → A → A) (Good : A → Type 0) (limit : ℕ) → ((k : ℕ) (a : A) → k < limit → Good a → Good (f k a))
    → (n k : ℕ) (a : A) → k + n ≤ limit → Good a → Good (through f n k a)
unfolding through
through_good f Good limit good zero k a b x = x
through_good f Good limit good (suc n) k a b x = through_good f Good limit good n (suc k) (f k a) (omega arith) (good k a (omega arith) x)

pub through_same : {A : Type 0} (f g : ℕ → A → A) (limit : ℕ) → ((k : ℕ) (a : A) → k < limit → f k a ≡ g k a)
    → (n k : ℕ) (a : A) → k + n ≤ limit → through f n k a ≡ through g n k a
unfolding through
through_same f g limit h zero k a b = refl
through_same f g limit h (suc n) k a b =
    ap (through f n (suc k)) (h k a (omega arith)) ∙ through_same f g limit h n (suc k) (g k a) (omega arith)
