-- A mask within n labels is given by its labels: an action formula that exactly these satisfy has this mask.
use mathlib.Core.Path.{◌≡◌, sym, ap, ◌∙◌}
use mathlib.Core.Bool.{Bool, true, false, cond, not, ◌&&◌}
use Prim.Native.Nat.{ℕ, zero, suc, ◌+◌, ◌*◌, ◌/◌, ◌%◌, ◌^◌, ◌≤◌}
use native.Mathlib.Nat.{mod-eq_of_lt}
use native.Mathlib.Omega.{arith}
use lib.Dec.{eqb}
use lib.Pow.{mod-pow-add}
use borrow.Author.Tests.{eqb-true, eqb-false}
use Rattle.lts.specs.Sizes.{most_labels}
use Rattle.lts.specs.Directions.{Direction}
use Rattle.lts.proofs.Silence.{heard}
use Rattle.actl.specs.Actions.{Action, satisfies, Mask, in_set, mask_of}
use Rattle.actl.specs.Prepared.{mask_within}
use Rattle.actl.proofs.Laws.Masks.{within_low}

in_set_bit : (m a : ℕ) → 1 ≤ a → a ≤ most_labels → in_set m a ≡ eqb (m / 2 ^ a % 2) 1
unfolding in_set
in_set_bit m a h k = ap (λ b. not b && eqb (m / 2 ^ a % 2) 1) (heard a h (omega arith))

-- A bit in front of the lower ones.
high_bit : (m k : ℕ) → m % 2 ^ suc k ≡ (m / 2 ^ k % 2) * 2 ^ k + m % 2 ^ k
high_bit m k = let one : suc k ≡ 1 + k = omega arith in ap (λ j. m % 2 ^ j) one ∙ mod-pow-add m 1 k

bit_before : (m k : ℕ) (t : Bool) → t ≡ eqb (m / 2 ^ k % 2) 1 → m % 2 ^ k + cond t (2 ^ k) 0 ≡ m % 2 ^ suc k
bit_before m k true e =
    let b : m / 2 ^ k % 2 ≡ 1 = eqb-true (m / 2 ^ k % 2) 1 (sym e) in
    let z : m % 2 ^ k + 2 ^ k ≡ 1 * 2 ^ k + m % 2 ^ k = omega arith in
    z ∙ (ap (λ r. r * 2 ^ k + m % 2 ^ k) (sym b) ∙ sym (high_bit m k))
bit_before m k false e =
    let u = eqb-false (m / 2 ^ k % 2) 1 (sym e) in
    let b : m / 2 ^ k % 2 ≡ 0 = omega arith in
    let z : m % 2 ^ k + 0 ≡ 0 * 2 ^ k + m % 2 ^ k = omega arith in
    z ∙ (ap (λ r. r * 2 ^ k + m % 2 ^ k) (sym b) ∙ sym (high_bit m k))

module _ (d : ℕ → Direction) (m : Mask) (x : Action) (even : m % 2 ≡ 0) where
  mask_lower : (n : ℕ) → ((a : ℕ) → 1 ≤ a → a ≤ n → satisfies d a x ≡ eqb (m / 2 ^ a % 2) 1) → mask_of d n x ≡ m % 2 ^ suc n
  unfolding mask_of
  mask_lower zero h = sym even
  mask_lower (suc n) h =
      ap (λ k. k + cond (satisfies d (suc n) x) (2 ^ suc n) 0) (mask_lower n (λ a l u. h a l (omega arith)))
      ∙ bit_before m (suc n) (satisfies d (suc n) x) (h (suc n) (omega arith) (omega arith))

pub mask_by_labels : (d : ℕ → Direction) (n : ℕ) (m : Mask) (x : Action) → n ≤ most_labels → mask_within n m ≡ true
    → ((a : ℕ) → 1 ≤ a → a ≤ n → satisfies d a x ≡ in_set m a) → mask_of d n x ≡ m
mask_by_labels d n m x few within h =
    let (even, low) = within_low n m within in
    mask_lower d m x even n (λ a l u. h a l u ∙ in_set_bit m a l (omega arith)) ∙ mod-eq_of_lt low
