-- Label names, with and without marks: which bytes are one, and looking one up.
use Rattle.std.specs.Prelude.{Bool, true, false, cond, ◌&&◌, ◌||◌, List, [], ◌∷◌, ℕ, zero, suc, leb, eqb}
use Rattle.std.proofs.Math.Option.{Option, none, some}
use Rattle.columns.specs.Bytes.{same_bytes}
use Rattle.lts.specs.Marks.{Marks, is_last_mark, marked}

-- 01: "a lower-case letter, then lower-case letters, digits or underscores"
abbrev pub is_lower : ℕ → Bool
is_lower b = leb 97 b && leb b 122

abbrev pub is_name_byte : ℕ → Bool
is_name_byte b = is_lower b || (eqb b 95 || (leb 48 b && leb b 57))

-- At most n bytes of a name, and perhaps a mark.
abbrev pub at_most : Marks → ℕ → List ℕ → Bool
at_most m n [] = true
at_most m zero (b ∷ l) = is_last_mark m b l
at_most m (suc n) (b ∷ l) = is_last_mark m b l || (is_name_byte b && at_most m n l)

-- 01: "A name has 1 to 12 bytes"
abbrev pub is_name_with : Marks → List ℕ → Bool
is_name_with m [] = false
is_name_with m (b ∷ l) = is_lower b && at_most m 11 l

abbrev pub is_name : List ℕ → Bool
is_name l = is_name_with marked l

-- Where a name stands in a list of names, from k; that is its label's number if k is 1.
unfoldable pub find_from : ℕ → List (List ℕ) → List ℕ → Option ℕ
find_from k [] name = none
find_from k (x ∷ l) name = cond (same_bytes x name) (some k) (find_from (suc k) l name)

-- The number of the label with a name.
abbrev pub lookup : List (List ℕ) → List ℕ → Option ℕ
lookup names name = find_from 1 names name
