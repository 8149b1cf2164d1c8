-- Directions: of a name, by its mark, and of a table's labels.
use Rattle.std.specs.Prelude.{Bool, cond, true, not, List, [], ◌∷◌, ℕ, zero, suc, eqb, get_or, ◌≡◌}
use Rattle.lts.specs.Lists.{every}
use Rattle.lts.specs.Marks.{is_mark}

-- 02: "its direction (none, in, out)": "`clamp!` is sent, `clamp?` is received"
pub data Direction : Type 0 where
  neither received sent : Direction

abbrev pub direction_of_mark : ℕ → Direction
direction_of_mark b = cond (eqb b 63) received (cond (eqb b 33) sent neither)

-- A name's last byte tells.
abbrev pub direction_of : List ℕ → Direction
direction_of [] = neither
direction_of (b ∷ []) = direction_of_mark b
direction_of (b ∷ c ∷ l) = direction_of (c ∷ l)

-- Numbers tell directions apart (proofs/Laws/NameRuns.antt: `same_direction_lem`).
abbrev pub direction_code : Direction → ℕ
direction_code neither = 0
direction_code received = 1
direction_code sent = 2

abbrev pub same_direction : Direction → Direction → Bool
same_direction d e = eqb (direction_code d) (direction_code e)

-- The direction of label a, which has the name at a - 1.
abbrev pub label_direction : List (List ℕ) → ℕ → Direction
label_direction names zero = neither
label_direction names (suc k) = direction_of (get_or names k [])

-- The mark of a direction: behind a name without one it makes the name of that direction.
abbrev pub mark_of : Direction → List ℕ
mark_of neither = []
mark_of received = 63 ∷ []
mark_of sent = 33 ∷ []

-- A text without marks.
abbrev pub Plain : List ℕ → Type 0
Plain s = every (λ b. not (is_mark b)) s ≡ true
