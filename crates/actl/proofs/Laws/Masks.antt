-- Masks: the mask of an action formula over labels 1 to n has the bit of exactly the labels that satisfy it, and none above n.
use mathlib.Core.Path.{◌≡◌, refl, sym, ap, ◌∙◌}
use mathlib.Core.Bool.{Bool, true, false, cond, ◌||◌}
use Prim.Native.Nat.{ℕ, zero, suc, ◌+◌, ◌-◌, ◌*◌, ◌/◌, ◌%◌, ◌^◌, ◌≤◌, ◌<◌}
use native.Mathlib.Nat.{add-zero, pow-succ', two-pow-succ, add-mul-div_right, div-eq_of_lt, add-div_right, lt_of_lt_of_le}
use lib.Pow.{pow-add, pow_pos, pow_mono}
use native.Mathlib.Decide.{dec_le}
use native.Mathlib.Omega.{arith}
use lib.Dec.{eqb, ltb}
use borrow.Author.Tests.{eq-eqb, ne_eqb, lt-ltb, eqb-true, ltb-true}
use Rattle.lts.specs.Sizes.{most_labels}
use Rattle.lts.specs.Steps.{silent as isSilent}
use Rattle.lts.specs.Directions.{Direction}
use Rattle.lts.proofs.Booleans.{and-true-of, and-true-to}
use Rattle.lts.proofs.Silence.{heard}
use Rattle.actl.specs.Actions.{Action, satisfies, Mask, in_set, mask_of, Cond, silent, labels, meets, passes}
use Rattle.actl.specs.Prepared.{mask_within}

-- A label that is not silent; and one that is.
in_set_bit : (m a : ℕ) → isSilent a ≡ false → in_set m a ≡ eqb (m / 2 ^ a % 2) 1
unfolding in_set
in_set_bit m a h = rw h

pub in_set-none : (m a : ℕ) → isSilent a ≡ true → in_set m a ≡ false
unfolding in_set
in_set-none m a h = rw h

-- A higher power of two leaves bit a as it is; the power itself is that bit.
bit_kept : (m a n : ℕ) → a ≤ n → (m + 2 ^ suc n) / 2 ^ a % 2 ≡ m / 2 ^ a % 2
bit_kept m a n h =
    let d = 2 ^ (n - a) in
    let up : suc n ≡ suc (n - a) + a = omega arith in
    let e : 2 ^ suc n ≡ (2 * d) * 2 ^ a = ap (λ k. 2 ^ k) up ∙ (pow-add 2 (suc (n - a)) a ∙ ap (λ k. k * 2 ^ a) (pow-succ' 2 (n - a))) in
    let q : (m + 2 ^ suc n) / 2 ^ a ≡ m / 2 ^ a + 2 * d = rw e (add-mul-div_right m (2 * d) (pow_pos a)) in
    omega arith

bit_added : (m k : ℕ) → m < 2 ^ k → (m + 2 ^ k) / 2 ^ k % 2 ≡ 1
bit_added m k h =
    let q : (m + 2 ^ k) / 2 ^ k ≡ m / 2 ^ k + 1 = add-div_right m (pow_pos k) in
    let z : m / 2 ^ k ≡ 0 = div-eq_of_lt h in
    omega arith

bit_above : (m k : ℕ) → m < 2 ^ k → m / 2 ^ k % 2 ≡ 0
bit_above m k h = let z : m / 2 ^ k ≡ 0 = div-eq_of_lt h in omega arith

-- One label more.
more-low : (m n : ℕ) (t : Bool) → m < 2 ^ suc n → m + cond t (2 ^ suc n) 0 < 2 ^ suc (suc n)
more-low m n true h = omega (arith, two-pow-succ (suc n))
more-low m n false h = omega (arith, two-pow-succ (suc n))

more_even : (m n : ℕ) (t : Bool) → m % 2 ≡ 0 → (m + cond t (2 ^ suc n) 0) % 2 ≡ 0
more_even m n true h = omega (arith, two-pow-succ n)
more_even m n false h = omega arith

more-kept : (m a n : ℕ) (t : Bool) → a ≤ n → (m + cond t (2 ^ suc n) 0) / 2 ^ a % 2 ≡ m / 2 ^ a % 2
more-kept m a n true h = bit_kept m a n h
more-kept m a n false h = rw add-zero

more_added : (m k : ℕ) (t : Bool) → m < 2 ^ k → eqb ((m + cond t (2 ^ k) 0) / 2 ^ k % 2) 1 ≡ t
more_added m k true h = eq-eqb ((m + 2 ^ k) / 2 ^ k % 2) 1 (bit_added m k h)
more_added m k false h = let z = bit_above m k h in rw add-zero (ne_eqb (m / 2 ^ k % 2) 1 (λ e. omega arith))

module _ (d : ℕ → Direction) where
  mask_low : (n : ℕ) (x : Action) → mask_of d n x < 2 ^ suc n
  unfolding mask_of
  mask_low zero x = omega arith
  mask_low (suc n) x = more-low (mask_of d n x) n (satisfies d (suc n) x) (mask_low n x)

  mask_even : (n : ℕ) (x : Action) → mask_of d n x % 2 ≡ 0
  unfolding mask_of
  mask_even zero x = refl
  mask_even (suc n) x = more_even (mask_of d n x) n (satisfies d (suc n) x) (mask_even n x)

  pub mask-within : (n : ℕ) (x : Action) → mask_within n (mask_of d n x) ≡ true
  mask-within n x =
      let m = mask_of d n x in
      and-true-to (eqb (m % 2) 0) (ltb m (2 ^ suc n)) (eq-eqb (m % 2) 0 (mask_even n x)) (lt-ltb m (2 ^ suc n) (mask_low n x))

  bit_satisfied : (n : ℕ) (x : Action) (a : ℕ) → a ≤ n → 1 ≤ a → eqb (mask_of d n x / 2 ^ a % 2) 1 ≡ satisfies d a x
  unfolding mask_of
  bit_satisfied zero x a h l = absurd (omega arith)
  bit_satisfied (suc n) x a h l = case (dec_le a n) (λ w. bit_satisfied n x a w l)
    where
      t : Bool
      t = satisfies d (suc n) x

      case : Dec (a ≤ n) → (a ≤ n → eqb (mask_of d n x / 2 ^ a % 2) 1 ≡ satisfies d a x) → eqb ((mask_of d n x + cond t (2 ^ suc n) 0) / 2 ^ a % 2) 1 ≡ satisfies d a x
      case (yes w) ih = ap (λ r. eqb r 1) (more-kept (mask_of d n x) a n t w) ∙ ih w
      case (no w) ih = let e : a ≡ suc n = omega arith in rw e (more_added (mask_of d n x) (suc n) t (mask_low n x))

  -- Label a is in the mask exactly if it satisfies the formula; the silent ones and what lies above the labels never are.
  pub mask_satisfied : (n : ℕ) (x : Action) (a : ℕ) → 1 ≤ a → a ≤ n → n ≤ most_labels → in_set (mask_of d n x) a ≡ satisfies d a x
  mask_satisfied n x a l h few = in_set_bit (mask_of d n x) a (heard a l (omega arith)) ∙ bit_satisfied n x a h l

pub within_low : (n : ℕ) (m : Mask) → mask_within n m ≡ true → (m % 2 ≡ 0) × (m < 2 ^ suc n)
within_low n m e = let (a, b) = and-true-of (eqb (m % 2) 0) (ltb m (2 ^ suc n)) e in (eqb-true (m % 2) 0 a, ltb-true m (2 ^ suc n) b)

pub in_set-above : (n : ℕ) (m : Mask) → mask_within n m ≡ true → (a : ℕ) → n < a → in_set m a ≡ false
in_set-above n m e a h = case (isSilent a) refl
  where
    case : (b : Bool) → isSilent a ≡ b → in_set m a ≡ false
    case true d = in_set-none m a d
    case false d =
        let low = (within_low n m e).1 in
        let z = bit_above m a (lt_of_lt_of_le low (pow_mono h)) in
        in_set_bit m a d ∙ ne_eqb (m / 2 ^ a % 2) 1 (λ d. omega arith)

pub mask-none : (d : ℕ → Direction) (n : ℕ) (x : Action) (a : ℕ) → n < a → in_set (mask_of d n x) a ≡ false
mask-none d n x a h = in_set-above n (mask_of d n x) (mask-within d n x) a h

-- Formulas do not tell silent labels apart.
module _ (a b : ℕ) (h : isSilent a ≡ true) (k : isSilent b ≡ true) where
  pub sets_alike : (m : Mask) → in_set m a ≡ in_set m b
  sets_alike m = in_set-none m a h ∙ sym (in_set-none m b k)

  pub meets_alike : (c : Cond) → meets c a ≡ meets c b
  unfolding meets
  meets_alike silent = h ∙ sym k
  meets_alike (labels m) = sets_alike m

  pub passes_alike : (m : Mask) → passes m a ≡ passes m b
  unfolding passes
  passes_alike m = λ i. (h ∙ sym k) i || sets_alike m i
