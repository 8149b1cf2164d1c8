-- The first bit that is set in a mask, from a bit on; and a mask without its first bit.
use mathlib.Core.Path.{◌≡◌, refl, sym, ap, ◌∙◌}
use mathlib.Core.Bool.{true, false, false≢true}
use Prim.Native.Nat.{ℕ, zero, suc, ◌+◌, ◌-◌, ◌*◌, ◌/◌, ◌%◌, ◌^◌, ◌≤◌, ◌<◌, min}
use native.Mathlib.Decide.{dec_lt, ℕ_discrete}
use native.Mathlib.Omega.{arith}
use lib.Bits.{bit_and, and_step, and_self}
use lib.Count.{count_trailing_zeros, under}
use lib.Dec.{eqb}
use lib.Pow.{shr-shr}
use borrow.Author.Tests.{eq-eqb, ne_eqb, eqb-true, eqb-false}
use Rattle.bits.specs.inner.Bits.{bit_at}
use Rattle.bits.proofs.Laws.Bits.{bit_zero}
use Rattle.frontier.specs.inner.Frontier.{FirstFrom}

-- Bits of what is left after a shift.
bit_shift : (m k j : ℕ) → bit_at (m / 2 ^ k) j ≡ bit_at m (k + j)
bit_shift m k j = ap (λ n. eqb (n % 2) 1) (shr-shr m k j)

bit_half : (m j : ℕ) → bit_at m (suc j) ≡ bit_at (m / 2) j
bit_half m j = let same : suc j ≡ 1 + j = omega arith in ap (bit_at m) same ∙ sym (bit_shift m 1 j)

low_clear : (w n j : ℕ) → j < count_trailing_zeros w n → bit_at n j ≡ false
unfolding count_trailing_zeros
low_clear zero n j h = absurd (omega arith)
low_clear (suc w) n j h = case (n % 2) refl j h (low_clear w (n / 2))
  where
    case : (r : ℕ) → n % 2 ≡ r → (j : ℕ) → j < under r (count_trailing_zeros w (n / 2)) → ((i : ℕ) → i < count_trailing_zeros w (n / 2) → bit_at (n / 2) i ≡ false) → bit_at n j ≡ false
    case zero e zero h more = ne_eqb (n / 1 % 2) 1 (λ u. omega arith)
    case zero e (suc j) h more = bit_half n j ∙ more j (omega arith)
    case (suc r) e j h more = absurd (omega arith)

low-set : (w n : ℕ) → count_trailing_zeros w n < w → bit_at n (count_trailing_zeros w n) ≡ true
unfolding count_trailing_zeros
low-set zero n h = absurd (omega arith)
low-set (suc w) n h = case (n % 2) refl h (low-set w (n / 2))
  where
    case : (r : ℕ) → n % 2 ≡ r → under r (count_trailing_zeros w (n / 2)) < suc w → (count_trailing_zeros w (n / 2) < w → bit_at (n / 2) (count_trailing_zeros w (n / 2)) ≡ true)
        → bit_at n (under r (count_trailing_zeros w (n / 2))) ≡ true
    case zero e h more = bit_half n (count_trailing_zeros w (n / 2)) ∙ more (omega arith)
    case (suc r) e h more = eq-eqb (n / 1 % 2) 1 (omega arith)

pub first_bit : (m k z : ℕ) → z ≡ count_trailing_zeros 64 (m / 2 ^ k) → FirstFrom (bit_at m) k 64 (k + z)
first_bit m k z e = record {
  from = omega arith;
  none = λ j a b.
      let same : k + (j - k) ≡ j = omega arith in
      ap (bit_at m) (sym same) ∙ (sym (bit_shift m k (j - k)) ∙ low_clear 64 (m / 2 ^ k) (j - k) (omega arith));
  found = λ h. ap (λ n. bit_at m (k + n)) e ∙ (sym (bit_shift m k (count_trailing_zeros 64 (m / 2 ^ k))) ∙ low-set 64 (m / 2 ^ k) (omega arith));
}

-- A mask without its first bit, which is k.
abbrev rest : ℕ → ℕ
rest n = bit_and n (n - 1)

record Off (n k : ℕ) : Type 0 where
  here : bit_at (rest n) k ≡ false
  other : (j : ℕ) → (j ≡ k → ⊥) → bit_at (rest n) j ≡ bit_at n j

rest_odd : (n : ℕ) → n % 2 ≡ 1 → rest n ≡ n / 2 * 2
rest_odd n e =
    let half : (n - 1) / 2 ≡ n / 2 = omega arith in
    let last : (n - 1) % 2 ≡ 0 = omega arith in
    and_step n (n - 1) ∙ ((λ i. bit_and (n / 2) (half i) * 2 + min (e i) (last i)) ∙ (ap (λ m. m * 2 + 0) (and_self (n / 2)) ∙ (omega arith)))

rest_even : (n : ℕ) → n % 2 ≡ 0 → (n / 2 ≡ 0 → ⊥) → rest n ≡ rest (n / 2) * 2
rest_even n e h =
    let half : (n - 1) / 2 ≡ n / 2 - 1 = omega arith in
    let last : (n - 1) % 2 ≡ 1 = omega arith in
    and_step n (n - 1) ∙ ((λ i. bit_and (n / 2) (half i) * 2 + min (e i) (last i)) ∙ (omega arith))

first_off : (k n : ℕ) → bit_at n k ≡ true → ((j : ℕ) → j < k → bit_at n j ≡ false) → Off n k
first_off zero n e h = record {
  here = ap (λ m. bit_at m 0) value ∙ ne_eqb (n / 2 * 2 / 1 % 2) 1 (λ u. omega arith);
  other = λ j c. pick j c;
}
  where
    value : rest n ≡ n / 2 * 2
    value = let odd : n / 1 % 2 ≡ 1 = eqb-true (n / 1 % 2) 1 e in rest_odd n (omega arith)

    pick : (j : ℕ) → (j ≡ 0 → ⊥) → bit_at (rest n) j ≡ bit_at n j
    pick zero c = absurd (c refl)
    pick (suc j) c =
        let half : n / 2 * 2 / 2 ≡ n / 2 = omega arith in
        ap (λ m. bit_at m (suc j)) value ∙ (bit_half (n / 2 * 2) j ∙ (ap (λ m. bit_at m j) half ∙ sym (bit_half n j)))
first_off (suc k) n e h = step (first_off k (n / 2) (sym (bit_half n k) ∙ e) (λ j c. sym (bit_half n j) ∙ h (suc j) (omega arith)))
  where
    even : n % 2 ≡ 0
    even = let clear : n / 1 % 2 ≡ 1 → ⊥ = eqb-false (n / 1 % 2) 1 (h 0 (omega arith)) in omega arith

    some_left : n / 2 ≡ 0 → ⊥
    some_left c = false≢true (sym (bit_zero k) ∙ (ap (λ m. bit_at m k) (sym c) ∙ (sym (bit_half n k) ∙ e)))

    shifted : (j : ℕ) → bit_at (rest n) (suc j) ≡ bit_at (rest (n / 2)) j
    shifted j =
        let half : rest (n / 2) * 2 / 2 ≡ rest (n / 2) = omega arith in
        ap (λ m. bit_at m (suc j)) (rest_even n even some_left) ∙ (bit_half (rest (n / 2) * 2) j ∙ ap (λ m. bit_at m j) half)

    step : Off (n / 2) k → Off n (suc k)
    step o = record { here = shifted k ∙ o.here; other = pick }
      where
        pick : (j : ℕ) → (j ≡ suc k → ⊥) → bit_at (rest n) j ≡ bit_at n j
        pick zero c = ap (λ m. bit_at m 0) (rest_even n even some_left) ∙ (ne_eqb (rest (n / 2) * 2 / 1 % 2) 1 (λ u. omega arith) ∙ sym (h 0 (omega arith)))
        pick (suc j) c = shifted j ∙ (o.other j (λ u. c (ap suc u)) ∙ sym (bit_half n j))

-- n has the bits of m from k on, and no others.
pub record BitsFrom (m k n : ℕ) : Type 0 where
  pub above : (j : ℕ) → k ≤ j → bit_at n j ≡ bit_at m j
  pub below : (j : ℕ) → j < k → bit_at n j ≡ false

pub bits_all : (m : ℕ) {k : ℕ} → FirstFrom (bit_at m) 0 64 k → BitsFrom m k m
bits_all m f = record { above = λ j h. refl; below = λ j h. f.none j (omega arith) h }

module _ {m k n : ℕ} (l : BitsFrom m k n) (few : k < 64) (e : bit_at m k ≡ true) where
  pub bits_some : 1 ≤ n
  bits_some = some n (l.above k (omega arith) ∙ e)
    where
      some : (n : ℕ) → bit_at n k ≡ true → 1 ≤ n
      some zero h = absurd (false≢true (sym (bit_zero k) ∙ h))
      some (suc n) h = omega arith

  off : Off n k
  off = first_off k n (l.above k (omega arith) ∙ e) l.below

  rest-above : (j : ℕ) → k + 1 ≤ j → bit_at (rest n) j ≡ bit_at m j
  rest-above j h = off.other j (λ u. omega arith) ∙ l.above j (omega arith)

  rest_below : (j : ℕ) → j < k + 1 → bit_at (rest n) j ≡ false
  rest_below j h = case (ℕ_discrete j k)
    where
      case : Dec (j ≡ k) → bit_at (rest n) j ≡ false
      case (yes c) = ap (bit_at (rest n)) c ∙ off.here
      case (no c) = off.other j c ∙ l.below j (omega arith)

  module _ {r : ℕ} (f : FirstFrom (bit_at (bit_and n (n - 1))) 0 64 r) where
    later : k + 1 ≤ r
    later = case (dec_lt r (k + 1))
      where
        case : Dec (r < k + 1) → k + 1 ≤ r
        case (yes h) = absurd (false≢true (sym (rest_below r h) ∙ f.found (omega arith)))
        case (no h) = omega arith

    pub bits_first : FirstFrom (bit_at m) (k + 1) 64 r
    bits_first = record {
      from = later;
      none = λ j a b. sym (rest-above j a) ∙ f.none j (omega arith) b;
      found = λ h. sym (rest-above r later) ∙ f.found h;
    }

    pub bits_rest : BitsFrom m r (bit_and n (n - 1))
    bits_rest = record { above = λ j h. rest-above j (omega (arith, later)); below = λ j h. f.none j (omega arith) h }
