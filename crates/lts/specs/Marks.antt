-- 02: "A name may end in one `?` or `!` beyond its 12 bytes". Whether it may is a parameter: 01's names have no marks.
use Rattle.std.specs.Prelude.{Bool, false, ◌||◌, List, [], ◌∷◌, ℕ, eqb}

pub data Marks : Type 0 where
  unmarked marked : Marks

abbrev pub is_mark : ℕ → Bool
is_mark b = eqb b 63 || eqb b 33

-- The byte b is a mark, and nothing stands behind it.
abbrev pub is_last_mark : Marks → ℕ → List ℕ → Bool
is_last_mark unmarked b l = false
is_last_mark marked b [] = is_mark b
is_last_mark marked b (c ∷ l) = false
