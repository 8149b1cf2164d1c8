-- 01: "Every number is decimal, right-justified with blanks in 6 columns, without leading zeros."
use Rattle.std.specs.Prelude.{cond, List, [], ◌∷◌, ◌++◌, ℕ, zero, suc, ◌+◌, ◌-◌, ◌*◌, ◌/◌, ◌%◌, ltb, length, replicate, take, drop}

-- The decimal digits of n, as bytes. The first argument bounds how many there are.
unfoldable pub digits_within : ℕ → ℕ → List ℕ
digits_within zero n = []
digits_within (suc k) n =
    let before : List ℕ = digits_within k (n / 10) in
    let all : List ℕ = before ++ ((48 + n % 10) ∷ []) in
    cond (ltb n 10) ((48 + n) ∷ []) all

abbrev pub decimal : ℕ → List ℕ
decimal n = digits_within (suc n) n

-- n in six columns.
unfoldable pub column : ℕ → List ℕ
column n = replicate (6 - length (decimal n)) 32 ++ decimal n

-- The number that six columns would hold: a blank counts as no digit. They hold it only if they are its `column`.
abbrev pub value_from : ℕ → List ℕ → ℕ
value_from n [] = n
value_from n (b ∷ l) = value_from (n * 10 + (b - 48)) l

-- The number that the six columns from place i of a line would hold.
abbrev pub value_at : ℕ → List ℕ → ℕ
value_at i l = value_from 0 (take 6 (drop i l))
