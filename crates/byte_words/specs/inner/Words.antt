-- Numbers of several bytes, the low one first.
use Rattle.std.specs.Prelude.{List, ℕ, zero, suc, ◌+◌, ◌*◌, get_or, drop}

-- The number in the first n bytes.
abbrev pub number : ℕ → List ℕ → ℕ
number zero b = 0
number (suc n) b = get_or b 0 0 + number n (drop 1 b) * 256

-- The number in the four bytes from `at` on, as two pairs.
abbrev pub four_bytes : List ℕ → ℕ → ℕ
four_bytes b at = get_or b at 0 + get_or b (at + 1) 0 * 256 + (get_or b (at + 2) 0 + get_or b (at + 3) 0 * 256) * 65536
