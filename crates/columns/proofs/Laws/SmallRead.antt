-- A number below 1,000 by the last four bytes of its column: one, two or three digits above zeros; and the column that they end.
use mathlib.Core.Path.{◌≡◌, sym, ◌∙◌}
use mathlib.Core.Bool.{Bool, true, false, cond}
use mathlib.Core.List.{List, [], ◌∷◌}
use Prim.Native.Nat.{ℕ, ◌+◌, ◌*◌, ◌/◌, ◌%◌, ◌≤◌, ◌<◌}
use native.Mathlib.Omega.{arith}
use borrow.Author.Tests.{eq-eqb, ne_eqb}
use lib.Dec.{eqb}
use lib.ListN.{length, get_or}
use Rattle.columns.specs.inner.Read.{column_at, lead}
use Rattle.columns.specs.inner.Small.{four_of, last_four, least_small, DigitsOf}
use Rattle.std.specs.Prelude.{Some}
use Rattle.columns.proofs.Laws.ColumnsRead.{column-there}
use Rattle.columns.proofs.Laws.Kept.{six_bytes}
use Rattle.columns.proofs.Laws.Small.{small-column}

-- A byte before the last one: a blank, or a digit.
lead-none : (n : ℕ) → n ≡ 0 → lead n ≡ 32
lead-none n e = rw (eq-eqb n 0 e)

lead-some : (n k d : ℕ) → 0 < n → n ≡ k * 10 + d → d ≤ 9 → lead n ≡ 48 + d
lead-some n k d h e l = let digit : n % 10 ≡ d = omega arith in rw (ne_eqb n 0 (omega arith), digit)

lead-small : (n : ℕ) → lead n < 256
lead-small n = step (eqb n 0)
  where
    step : (b : Bool) → cond b 32 (48 + n % 10) < 256
    step true = omega arith
    step false = omega arith

-- The last four bytes by their digits.
last_four_lem : (v b c o : ℕ) → lead (v / 100) ≡ b → lead (v / 10) ≡ c → v % 10 ≡ o → last_four v ≡ four_of 32 b c (48 + o)
last_four_lem v b c o e f g = λ i. four_of 32 (e i) (f i) (48 + g i)

-- One digit, two, three: the bytes are not below those of 0, of 10, of 100.
pub one_digit : (four : ℕ) → least_small ≤ four → DigitsOf four (four_of 32 32 32 48) (four_of 0 0 0 9)
one_digit four l = record {
  below = l;
  reads = λ h t o e m a b.
      let v = (h * 10 + t) * 10 + o in
      let is = last_four_lem v 32 32 o (lead-none (v / 100) (omega arith)) (lead-none (v / 10) (omega arith)) (omega arith) in
      omega arith;
}

pub two_digits : (four : ℕ) → four_of 32 32 49 48 ≤ four → DigitsOf four (four_of 32 32 48 48) (four_of 0 0 9 9)
two_digits four l = record {
  below = omega arith;
  reads = λ h t o e m a b.
      let v = (h * 10 + t) * 10 + o in
      let none : h ≡ 0 = omega arith in
      let some : 0 < t = omega arith in
      let tens : v / 10 ≡ h * 10 + t = omega arith in
      let is = last_four_lem v 32 (48 + t) o (lead-none (v / 100) (omega arith)) (lead-some (v / 10) h t (omega arith) tens a) (omega arith) in
      omega arith;
}

pub three_digits : (four : ℕ) → four_of 32 49 48 48 ≤ four → DigitsOf four (four_of 32 48 48 48) (four_of 0 9 9 9)
three_digits four l = record {
  below = omega arith;
  reads = λ h t o e m a b.
      let v = (h * 10 + t) * 10 + o in
      let some : 0 < h = omega arith in
      let few : h ≤ 9 = omega arith in
      let tens : v / 10 ≡ h * 10 + t = omega arith in
      let hundreds : v / 100 ≡ 0 * 10 + h = omega arith in
      let is = last_four_lem v (48 + h) (48 + t) o (lead-some (v / 100) 0 h (omega arith) hundreds few) (lead-some (v / 10) h t (omega arith) tens a) (omega arith) in
      omega arith;
}

-- Equal numbers of four bytes are made of equal bytes.
last_byte : (x y a b : ℕ) → a < 256 → b < 256 → x * 256 + a ≡ y * 256 + b → (x ≡ y) × (a ≡ b)
last_byte x y a b p q e = let same : x ≡ y = omega arith in (same, omega arith)

record SameFour (a b c d e f g h : ℕ) : Type 0 where
  first : a ≡ e
  second : b ≡ f
  third : c ≡ g
  fourth : d ≡ h

same_four : (a b c d e f g h : ℕ) → b < 256 → c < 256 → d < 256 → f < 256 → g < 256 → h < 256 → four_of a b c d ≡ four_of e f g h → SameFour a b c d e f g h
same_four a b c d e f g h p q r s t u is =
    let (three, fourth) = last_byte ((a * 256 + b) * 256 + c) ((e * 256 + f) * 256 + g) d h r u is in
    let (two, third) = last_byte (a * 256 + b) (e * 256 + f) c g q t three in
    let (first, second) = last_byte a e b f p s two in
    record { first = first; second = second; third = third; fourth = fourth }

-- Two blanks, and the last four bytes of the column of v.
pub small-there : (s : List ℕ) (at v : ℕ) → at + 6 ≤ length s → ((i : ℕ) → get_or s i 0 < 256) → v < 1000
    → get_or s at 0 * 256 + get_or s (at + 1) 0 ≡ 32 * 256 + 32
    → four_of (get_or s (at + 2) 0) (get_or s (at + 3) 0) (get_or s (at + 4) 0) (get_or s (at + 5) 0) ≡ last_four v
    → Some v ≡ column_at s at
small-there s at v h bytes few two four =
    let first : get_or s at 0 ≡ 32 = omega (arith, bytes at, bytes (at + 1)) in
    let second : get_or s (at + 1) 0 ≡ 32 = omega (arith, bytes at, bytes (at + 1)) in
    let last = same_four (get_or s (at + 2) 0) (get_or s (at + 3) 0) (get_or s (at + 4) 0) (get_or s (at + 5) 0) 32 (lead (v / 100)) (lead (v / 10)) (48 + v % 10)
    (bytes (at + 3)) (bytes (at + 4)) (bytes (at + 5)) (lead-small (v / 100)) (lead-small (v / 10)) (omega arith) four in
    let none = lead-none (v / 1000) (omega arith) in
    column-there s at v (six_bytes s at h
    ∙ (λ i. first i ∷ second i ∷ (last.first ∙ sym none) i ∷ last.second i ∷ last.third i ∷ last.fourth i ∷ [])
    ∙ sym (small-column v (omega arith)))
