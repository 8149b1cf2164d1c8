-- What reading a number below 1,000 finds: the last four bytes of its column as a number, and the number.
use Rattle.std.specs.Prelude.{◌≡◌, List, Some, ℕ, ◌+◌, ◌*◌, ◌/◌, ◌%◌, ◌≤◌, ◌<◌}
use Rattle.columns.specs.inner.Read.{column_at, lead}

-- Four bytes as a number, the first one the highest.
abbrev pub four_of : ℕ → ℕ → ℕ → ℕ → ℕ
four_of a b c d = ((a * 256 + b) * 256 + c) * 256 + d

-- The last four bytes of the column of a number below 1,000; those of 0.
abbrev pub last_four : ℕ → ℕ
last_four v = four_of 32 (lead (v / 100)) (lead (v / 10)) (48 + v % 10)

abbrev pub least_small : ℕ
least_small = four_of 32 32 32 48

-- Zeros, and the most that may stand above them: then the digits above them are those of the number.
pub record DigitsOf (four zeros most : ℕ) : Type 0 where
  pub below : zeros ≤ four
  pub reads : (h t o : ℕ) → four ≡ zeros + (h * 65536 + t * 256 + o) → h * 65536 + t * 256 + o ≤ most → t ≤ 9 → o ≤ 9 → four ≡ last_four ((h * 10 + t) * 10 + o)

abbrev pub SmallIn : ℕ → ℕ → Type 0
SmallIn four r = r < 1000 → four ≡ last_four r

abbrev pub SmallAt : List ℕ → ℕ → ℕ → Type 0
SmallAt s at r = r < 1000 → Some r ≡ column_at s at
