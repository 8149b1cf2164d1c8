-- Masks by the form of their action formula: all labels, one label, complement and union.
use mathlib.Core.Path.{◌≡◌, refl, sym, ◌∙◌}
use mathlib.Core.Bool.{Bool, true, false, cond, not, ◌||◌}
use Prim.Native.Nat.{ℕ, zero, suc, ◌+◌, ◌*◌, ◌^◌, ◌≤◌, ◌<◌}
use native.Mathlib.Nat.{two-pow-succ, lt_of_lt_of_le}
use lib.Pow.{pow_mono}
use native.Mathlib.Decide.{dec_le}
use native.Mathlib.Omega.{arith}
use borrow.Author.Tests.{eq-eqb, ne_eqb}
use lib.Bits.{bit_or, or_block}
use Rattle.lts.specs.Directions.{Direction}
use Rattle.actl.specs.Actions.{Action, satisfies, mask_of}

abbrev bit : Bool → ℕ
bit true = 1
bit false = 0

-- A label's bit in front of the lower ones.
cond_bit : (t : Bool) (m p : ℕ) → m + cond t p 0 ≡ bit t * p + m
cond_bit true m p = omega arith
cond_bit false m p = omega arith

bit_or_lem : (t u : Bool) → bit (t || u) ≡ bit_or (bit t) (bit u)
bit_or_lem true true = refl
bit_or_lem true false = refl
bit_or_lem false true = refl
bit_or_lem false false = refl

module _ (d : ℕ → Direction) where
  mask_step : (n : ℕ) (x : Action) → mask_of d (suc n) x ≡ bit (satisfies d (suc n) x) * 2 ^ suc n + mask_of d n x
  unfolding mask_of
  mask_step n x = cond_bit (satisfies d (suc n) x) (mask_of d n x) (2 ^ suc n)

  pub mask_below : (n : ℕ) (x : Action) → mask_of d n x < 2 ^ suc n
  unfolding mask_of
  mask_below zero x = omega arith
  mask_below (suc n) x = case (satisfies d (suc n) x) (mask_below n x)
    where
      case : (t : Bool) → mask_of d n x < 2 ^ suc n → mask_of d n x + cond t (2 ^ suc n) 0 < 2 ^ suc (suc n)
      case true h = omega (arith, two-pow-succ (suc n))
      case false h = omega (arith, two-pow-succ (suc n))

  -- One label more.
  pub mask-none_yet : (x : Action) → 0 ≡ mask_of d 0 x
  unfolding mask_of
  mask-none_yet x = refl

  pub mask-more : (n : ℕ) (x : Action) → mask_of d n x + cond (satisfies d (suc n) x) (2 ^ suc n) 0 ≡ mask_of d (suc n) x
  unfolding mask_of
  mask-more n x = refl

  pub mask-small : (n : ℕ) (x : Action) → n ≤ 40 → mask_of d n x < 2 ^ 41
  mask-small n x h = lt_of_lt_of_le (mask_below n x) (pow_mono (let w : suc n ≤ 41 = omega arith in w))

  pub mask-any : (n : ℕ) → 2 ^ suc n ≡ mask_of d n Action.any + 2
  unfolding mask_of
  mask-any zero = refl
  mask-any (suc n) = omega (arith, mask-any n, two-pow-succ (suc n))

  pub mask_complement : (n : ℕ) (x : Action) → mask_of d n (Action.not x) + mask_of d n x ≡ mask_of d n Action.any
  unfolding mask_of
  mask_complement zero x = refl
  mask_complement (suc n) x = case (satisfies d (suc n) x) (mask_complement n x)
    where
      case : (t : Bool) → mask_of d n (Action.not x) + mask_of d n x ≡ mask_of d n Action.any
          → mask_of d n (Action.not x) + cond (not t) (2 ^ suc n) 0 + (mask_of d n x + cond t (2 ^ suc n) 0) ≡ mask_of d n Action.any + 2 ^ suc n
      case true h = omega arith
      case false h = omega arith

  pub mask-union : (n : ℕ) (x y : Action) → mask_of d n (Action.or x y) ≡ bit_or (mask_of d n x) (mask_of d n y)
  mask-union zero x y = unfold mask_of in refl
  mask-union (suc n) x y =
      let t = satisfies d (suc n) x in
      let u = satisfies d (suc n) y in
      mask_step n (Action.or x y)
      ∙ (rw (bit_or_lem t u, mask-union n x y, mask_step n x, mask_step n y) (sym (or_block (suc n) (bit t) (bit u) (mask_of d n x) (mask_of d n y) (mask_below n x) (mask_below n y))))

  -- A label that is none of 1 to n, and one that is.
  pub mask-none : (n a : ℕ) → ((k : ℕ) → 1 ≤ k → k ≤ n → k ≡ a → ⊥) → mask_of d n (Action.label a) ≡ 0
  mask-none zero a h = unfold mask_of in refl
  mask-none (suc n) a h = mask_step n (Action.label a) ∙ (rw (ne_eqb (suc n) a (h (suc n) (omega arith) (omega arith))) (omega (arith, mask-none n a (λ k l m. h k l (omega arith)))))

  pub mask-label : (n a : ℕ) → 1 ≤ a → a ≤ n → mask_of d n (Action.label a) ≡ 2 ^ a
  mask-label zero a h w = absurd (omega arith)
  mask-label (suc n) a h w = case (dec_le a n) (mask-label n a h)
    where
      case : Dec (a ≤ n) → (a ≤ n → mask_of d n (Action.label a) ≡ 2 ^ a) → mask_of d (suc n) (Action.label a) ≡ 2 ^ a
      case (yes q) i = mask_step n (Action.label a) ∙ (rw (ne_eqb (suc n) a (λ e. omega arith)) (omega (arith, i q)))
      case (no q) i =
          let e : suc n ≡ a = omega arith in
          mask_step n (Action.label a) ∙ (rw (eq-eqb (suc n) a e, mask-none n a (λ k l m z. omega arith), e) (omega arith))
