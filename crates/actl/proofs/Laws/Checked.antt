-- The tests of the check: what each says of bytes.
use mathlib.Core.Path.{◌≡◌, refl, sym, ap, ◌∙◌}
use mathlib.Core.Bool.{Bool, true, false, not, ◌&&◌, ◌||◌}
use mathlib.Core.List.{List, [], ◌∷◌}
use Prim.Native.Nat.{ℕ, suc, ◌+◌, ◌*◌, ◌/◌, ◌%◌, ◌^◌, ◌≤◌, ◌<◌}
use native.Mathlib.Nat.{div-eq_of_lt, div-lt_iff_lt-mul, lt_of_lt_of_le}
use native.Mathlib.Numerals.{add-one}
use native.Mathlib.Decide.{dec_lt}
use native.Mathlib.Omega.{arith}
use lib.Dec.{leb, ltb, eqb}
use lib.ListN.{get_or}
use lib.Pow.{pow_pos, pow_mono}
use borrow.Author.Tests.{eq-eqb, ne_eqb, eqb-true, lt-ltb, le-ltb, lt-leb, le-leb}
use Rattle.lts.specs.inner.Lists.{up_from}
use Rattle.lts.proofs.Lists.{up_from-to, every_of}
use Rattle.lts.proofs.Booleans.{and-true-of}
use Rattle.actl.specs.Prepared.{Slot, mask_within, slot_within}
use Rattle.actl.specs.inner.Shaped.{shaped, first_used, second_used}
use Rattle.actl.specs.inner.Check.{slot_fits}

-- Masks within n labels.
module _ (n m : ℕ) where
  pub odd_outside : (m % 2 ≡ 0 → ⊥) → mask_within n m ≡ false
  odd_outside h = ap (λ t. t && ltb m (2 ^ suc n)) (ne_eqb (m % 2) 0 h)

  pub even_within : m % 2 ≡ 0 → mask_within n m ≡ ltb m (2 ^ suc n)
  even_within h = ap (λ t. t && ltb m (2 ^ suc n)) (eq-eqb (m % 2) 0 h)

  pub all-within : m % 2 ≡ 0 → m < 2 ^ 64 → 63 ≤ n → mask_within n m ≡ true
  all-within e l h = even_within e ∙ lt-ltb m (2 ^ suc n) (lt_of_lt_of_le l (pow_mono {i = 64} {j = suc n} (omega arith)))

  -- No bit above n.
  pub shifted_within : m % 2 ≡ 0 → eqb (m / 2 ^ (n + 1)) 0 ≡ mask_within n m
  shifted_within e = rw add-one (case (dec_lt m (2 ^ suc n))) ∙ sym (even_within e)
    where
      below : m / 2 ^ suc n ≡ 0 → m < 2 ^ suc n
      below z = let h : m < 1 * 2 ^ suc n = (div-lt_iff_lt-mul {y = 1} (pow_pos (suc n))).0 (omega arith) in omega arith

      case : Dec (m < 2 ^ suc n) → eqb (m / 2 ^ suc n) 0 ≡ ltb m (2 ^ suc n)
      case (yes l) = eq-eqb (m / 2 ^ suc n) 0 (div-eq_of_lt l) ∙ sym (lt-ltb m (2 ^ suc n) l)
      case (no l) = ne_eqb (m / 2 ^ suc n) 0 (λ z. l (below z)) ∙ sym (le-ltb m (2 ^ suc n) (omega arith))

  zero-fits : m ≡ 0 → mask_within n m ≡ true
  zero-fits e = rw e (lt-ltb 0 (2 ^ suc n) (pow_pos (suc n)))

  pub unused_fits : eqb m 0 ≡ (eqb m 0 && mask_within n m)
  unused_fits = case (eqb m 0) refl
    where
      case : (t : Bool) → eqb m 0 ≡ t → t ≡ (t && mask_within n m)
      case true e = sym (zero-fits (eqb-true m 0 e))
      case false e = refl

-- How many masks each kind has.
abbrev pub masks : List ℕ
masks = 0 ∷ 0 ∷ 0 ∷ 0 ∷ 0 ∷ 1 ∷ 0 ∷ 1 ∷ 1 ∷ 2 ∷ []

same : Bool → Bool → Bool
same true b = b
same false b = not b

same_of : (a b : Bool) → same a b ≡ true → a ≡ b
unfolding same
same_of true b e = sym e
same_of false true e = e
same_of false false e = refl

right : ℕ → Bool
right k = same (leb 1 (get_or masks k 0)) (first_used k) && same (eqb (get_or masks k 0) 2) (second_used k)

masks_right : (k : ℕ) → k < 10 → (leb 1 (get_or masks k 0) ≡ first_used k) × (eqb (get_or masks k 0) 2 ≡ second_used k)
unfolding right same
masks_right k h =
    let (a, b) = and-true-of (same (leb 1 (get_or masks k 0)) (first_used k)) (same (eqb (get_or masks k 0) 2) (second_used k))
    (every_of right (up_from 0 10) refl k (up_from-to 0 10 k (omega arith) (omega arith))) in
    (same_of (leb 1 (get_or masks k 0)) (first_used k) a, same_of (eqb (get_or masks k 0) 2) (second_used k) b)

pub first-mask : (k : ℕ) → k < 10 → leb 1 (get_or masks k 0) ≡ first_used k
first-mask k h = (masks_right k h).0

pub second-mask : (k : ℕ) → k < 10 → eqb (get_or masks k 0) 2 ≡ second_used k
second-mask k h = (masks_right k h).1

-- A slot fits if its kind is one of the nine and each of its masks fits.
swap : (a b w v : Bool) → ((a && b) && (w && v)) ≡ ((a && w) && (b && v))
swap false b w v = refl
swap true false false v = refl
swap true false true v = refl
swap true true w v = refl

module _ (n : ℕ) (s : Slot) where
  pub kind-low : s.kind ≡ 0 → slot_fits n s ≡ false
  unfolding shaped
  kind-low e = ap (λ t. (((t && leb s.kind 9) && (first_used s.kind || eqb s.first 0)) && (second_used s.kind || eqb s.second 0)) && slot_within n s) (ap (leb 1) e)

  pub kind-high : 9 < s.kind → slot_fits n s ≡ false
  unfolding shaped
  kind-high h = case (leb 1 s.kind)
    where
      case : (t : Bool) → ((((t && leb s.kind 9) && (first_used s.kind || eqb s.first 0)) && (second_used s.kind || eqb s.second 0)) && slot_within n s) ≡ false
      case true = ap (λ t. ((t && (first_used s.kind || eqb s.first 0)) && (second_used s.kind || eqb s.second 0)) && slot_within n s) (lt-leb s.kind 9 h)
      case false = refl

  pub masks_fit : (s.kind ≡ 0 → ⊥) → s.kind ≤ 9
      → (((first_used s.kind || eqb s.first 0) && mask_within n s.first) && ((second_used s.kind || eqb s.second 0) && mask_within n s.second)) ≡ slot_fits n s
  unfolding shaped
  masks_fit l h =
      sym ((λ i. (((le-leb 1 s.kind (omega arith) i && le-leb s.kind 9 h i) && (first_used s.kind || eqb s.first 0)) && (second_used s.kind || eqb s.second 0)) && slot_within n s)
      ∙ swap (first_used s.kind || eqb s.first 0) (second_used s.kind || eqb s.second 0) (mask_within n s.first) (mask_within n s.second))
