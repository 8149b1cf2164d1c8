-- The lowest place of a mask that has one: it is one of the mask's places, and what is left without it.
use mathlib.Core.Path.{◌≡◌, refl, ap, ◌∙◌, subst}
use Prim.Native.Nat.{ℕ, zero, suc, ◌-◌, ◌*◌, ◌/◌, ◌%◌, ◌^◌, ◌≤◌, ◌<◌, min}
use native.Mathlib.Nat.{pow-suc}
use native.Mathlib.Omega.{arith}
use lib.Bits.{bit_and, and_step, and_self}
use lib.Count.{count_trailing_zeros, under}
use lib.Pow.{pow_pos}

pub half_below : (m n : ℕ) → m < 2 ^ suc n → m / 2 < 2 ^ n
half_below m n h = let z : m < 2 ^ n * 2 = subst (λ k. m < k) (pow-suc 2 n) h in omega arith

pub lowest_inside : (d n m : ℕ) → n ≤ d → (m ≡ 0 → ⊥) → m < 2 ^ n → count_trailing_zeros d m < n
unfolding count_trailing_zeros
lowest_inside d zero m k z h = absurd (z (omega arith))
lowest_inside zero (suc n) m k z h = absurd (omega arith)
lowest_inside (suc d) (suc n) m k z h = go (m % 2) refl (λ e. lowest_inside d n (m / 2) (omega arith) (λ y. z (omega arith)) (half_below m n h))
  where
    go : (r : ℕ) → m % 2 ≡ r → (m % 2 ≡ 0 → count_trailing_zeros d (m / 2) < n) → under r (count_trailing_zeros d (m / 2)) < suc n
    go zero e i = let j = i e in omega arith
    go (suc r) e i = omega arith

-- Fewer places are left.
pub lowest_falls : (m t : ℕ) → (m ≡ 0 → ⊥) → m - 2 ^ t < m
lowest_falls m t z = let p = pow_pos t in omega arith

-- What stands below and above, by halves.
pub even_rest : (m t : ℕ) → m % 2 ≡ 0 → ((m - 2 ^ suc t) % 2 ≡ 0) × ((m - 2 ^ suc t) / 2 ≡ m / 2 - 2 ^ t)
even_rest m t e = let p = pow-suc 2 t in (omega arith, omega arith)

pub odd_rest : (m : ℕ) → m % 2 ≡ 1 → ((m - 2 ^ 0) % 2 ≡ 0) × ((m - 2 ^ 0) / 2 ≡ m / 2)
odd_rest m e = (omega arith, omega arith)

-- `m & (m - 1)` is the mask without its lowest place.
pub cleared : (d m : ℕ) → (m ≡ 0 → ⊥) → m < 2 ^ d → bit_and m (m - 1) ≡ m - 2 ^ count_trailing_zeros d m
unfolding count_trailing_zeros
cleared zero m z h = absurd (z (omega arith))
cleared (suc d) m z h = go (m % 2) refl (λ e. cleared d (m / 2) (λ y. z (omega arith)) (half_below m d h))
  where
    go : (r : ℕ) → m % 2 ≡ r → (m % 2 ≡ 0 → bit_and (m / 2) (m / 2 - 1) ≡ m / 2 - 2 ^ count_trailing_zeros d (m / 2)) → bit_and m (m - 1) ≡ m - 2 ^ under r (count_trailing_zeros d (m / 2))
    go zero e i =
        let t = count_trailing_zeros d (m / 2) in
        let half : (m - 1) / 2 ≡ m / 2 - 1 = omega arith in
        let low : min (m % 2) ((m - 1) % 2) ≡ 0 = omega arith in
        let p = pow-suc 2 t in
        let s = and_step m (m - 1) in
        let f : bit_and (m / 2) ((m - 1) / 2) ≡ m / 2 - 2 ^ t = ap (bit_and (m / 2)) half ∙ i e in
        omega arith
    go (suc r) e i =
        let half : (m - 1) / 2 ≡ m / 2 = omega arith in
        let low : min (m % 2) ((m - 1) % 2) ≡ 0 = omega arith in
        let s = and_step m (m - 1) in
        let f : bit_and (m / 2) ((m - 1) / 2) ≡ m / 2 = ap (bit_and (m / 2)) half ∙ and_self (m / 2) in
        omega arith
