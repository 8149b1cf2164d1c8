-- Numbers in bytes, the low byte first: from the bytes to the number and back.
use mathlib.Core.Path.{◌≡◌, refl}
use mathlib.Core.List.{List, ◌++◌}
use Prim.Native.Nat.{ℕ, zero, suc, ◌+◌, ◌/◌, ◌^◌, ◌≤◌, ◌<◌}
use native.Mathlib.Nat.{pow-suc, pow-zero}
use native.Mathlib.Omega.{arith}
use lib.ListN.{get_or, drop, take}
use lib.Seq.{drop-drop, get_or-drop, get_or-take}
use Rattle.columns.specs.Bytes.{low_first}
use Rattle.byte_words.specs.inner.Words.{number}

-- n bytes carry the numbers below 256 ^ n.
pub number-low-first : (n x : ℕ) (rest : List ℕ) → x < 256 ^ n → number n (low_first n x ++ rest) ≡ x
number-low-first zero x rest h = omega (arith, pow-zero 256)
number-low-first (suc n) x rest h = omega (arith, pow-suc 256 n, number-low-first n (x / 256) rest (omega (arith, pow-suc 256 n)))

-- The number in n bytes that stand in the first m.
pub number-take : (n j m : ℕ) (b : List ℕ) → j + n ≤ m → number n (drop j (take m b)) ≡ number n (drop j b)
number-take zero j m b h = refl
number-take (suc n) j m b h =
    let first : get_or (drop j (take m b)) 0 0 ≡ get_or (drop j b) 0 0 = simp get_or-drop (get_or-take m b (j + 0) 0 (omega arith)) in
    let others : number n (drop 1 (drop j (take m b))) ≡ number n (drop 1 (drop j b)) = simp drop-drop (number-take n (j + 1) m b (omega arith)) in
    cc
