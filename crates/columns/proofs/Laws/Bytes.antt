-- Laws of lists of bytes: equality as a test, zeros behind a list, numbers as bytes.
use mathlib.Core.Path.{◌≡◌, refl, ap, ap₂, ◌∙◌}
use mathlib.Core.Bool.{Bool, true, false, false≢true, ◌&&◌}
use mathlib.Core.List.Memᴰ
use mathlib.Core.List.{List, [], ◌∷◌, ◌++◌, Memᴰ}
use mathlib.Core.Logic.{◌⊎◌, inl, inr}
use Prim.Native.Nat.{ℕ, zero, suc, ◌+◌, ◌-◌, ◌*◌, ◌/◌, ◌%◌, ◌≤◌, ◌<◌}
use native.Mathlib.Nat.{add-mul-mod_self_right, mod-eq_of_lt, div-add-mod'}
use native.Mathlib.Omega.{arith}
use lib.Dec.{eqb}
use lib.ListN.{length, get_or, replicate, length-append, length-replicate}
use borrow.Author.Tests.{eqb-true, eq-eqb}
use Rattle.columns.specs.Bytes.{same_bytes, padded, low_first}

-- Every member is below 256.
abbrev pub Bytes : List ℕ → Type 0
Bytes l = (b : ℕ) → Memᴰ b l → b < 256

pub bytes-none : Bytes []
bytes-none b m = absurd (Memᴰ.not-nil m)

pub bytes-cons : {x : ℕ} {l : List ℕ} → x < 256 → Bytes l → Bytes (x ∷ l)
bytes-cons {x} {l} h r b m = step (Memᴰ.cases_cons m)
  where
    step : (b ≡ x) ⊎ Memᴰ b l → b < 256
    step (inl e) = omega arith
    step (inr n) = r b n

pub bytes_append : (l : List ℕ) {m : List ℕ} → Bytes l → Bytes m → Bytes (l ++ m)
bytes_append l {m} r s b d = step (Memᴰ.append_cases l d)
  where
    step : Memᴰ b l ⊎ Memᴰ b m → b < 256
    step (inl n) = r b n
    step (inr n) = s b n

pub bytes-at : (l : List ℕ) → Bytes l → (i : ℕ) → get_or l i 0 < 256
bytes-at [] h i = omega arith
bytes-at (x ∷ l) h zero = h x (Memᴰ.head refl)
bytes-at (x ∷ l) h (suc i) = bytes-at l (λ b m. h b (Memᴰ.tail m)) i

pub replicate_mem : (n a : ℕ) {b : ℕ} → Memᴰ b (replicate n a) → b ≡ a
replicate_mem zero a m = absurd (Memᴰ.not-nil m)
replicate_mem (suc n) a {b} m = step (replicate_mem n a) (Memᴰ.cases_cons m)
  where
    step : (Memᴰ b (replicate n a) → b ≡ a) → (b ≡ a) ⊎ Memᴰ b (replicate n a) → b ≡ a
    step h (inl e) = e
    step h (inr d) = h d

-- Equality as a test.
pub same_of : (a b : List ℕ) → same_bytes a b ≡ true → a ≡ b
same_of [] [] e = refl
same_of [] (y ∷ b) e = absurd (false≢true e)
same_of (x ∷ a) [] e = absurd (false≢true e)
same_of (x ∷ a) (y ∷ b) e = step (eqb x y) refl e (same_of a b)
  where
    step : (t : Bool) → eqb x y ≡ t → (t && same_bytes a b) ≡ true → (same_bytes a b ≡ true → a ≡ b) → x ∷ a ≡ y ∷ b
    step true d f h = ap₂ (λ (z : ℕ) (l : List ℕ). z ∷ l) (eqb-true x y d) (h f)
    step false d f h = absurd (false≢true f)

pub same_refl : (a : List ℕ) → same_bytes a a ≡ true
same_refl [] = refl
same_refl (x ∷ a) = rw (eq-eqb x x refl) (same_refl a)

pub same-to : (a b : List ℕ) → a ≡ b → same_bytes a b ≡ true
same-to a b e = rw e (same_refl b)

-- Zeros behind a list.
pub padded-length : (n : ℕ) (l : List ℕ) → length l ≤ n → length (padded n l) ≡ n
padded-length n l h = simp (length-append, length-replicate) (omega arith)

pub padded-bytes : (n : ℕ) (l : List ℕ) → Bytes l → Bytes (padded n l)
padded-bytes n l r = bytes_append l r (λ b m. omega (arith, replicate_mem (n - length l) 0 m))

-- Numbers as bytes.
pub low_first-length : (n x : ℕ) → length (low_first n x) ≡ n
low_first-length zero x = refl
low_first-length (suc n) x = ap suc (low_first-length n (x / 256))

pub low_first-bytes : (n x : ℕ) → Bytes (low_first n x)
low_first-bytes zero x = bytes-none
low_first-bytes (suc n) x = bytes-cons (omega arith) (low_first-bytes n (x / 256))

-- Two bytes hold a number below 65,536, and are its bytes.
pub pair_value : (x : ℕ) → x < 65536 → x % 256 + (x / 256) % 256 * 256 ≡ x
pair_value x h = omega arith

pub pair_bytes : (a b : ℕ) → a < 256 → b < 256 → low_first 2 (a + b * 256) ≡ a ∷ b ∷ []
pair_bytes a b h k =
    let low : (a + b * 256) % 256 ≡ a = add-mul-mod_self_right a b 256 ∙ mod-eq_of_lt h in
    let whole : (a + b * 256) / 256 * 256 + (a + b * 256) % 256 ≡ a + b * 256 = div-add-mod' (a + b * 256) 256 in
    let quotient : (a + b * 256) / 256 ≡ b = omega arith in
    let high : (a + b * 256) / 256 % 256 ≡ b = rw quotient (mod-eq_of_lt k) in
    λ i. low i ∷ high i ∷ []
