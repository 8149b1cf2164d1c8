-- 02, of a list of starts: the table with another start, its prepared bytes, and which entries are wrong.
use Rattle.std.specs.Prelude.{◌≡◌, Bool, cond, ◌&&◌, List, [], ◌∷◌, ℕ, suc, ◌<◌, leb, ltb, length, get_or, set}
use Rattle.std.proofs.Math.Option.{Option, none, some}
use Rattle.lts.specs.Steps.{Table}

-- 02: "a table with that start"
abbrev pub starting_at : Table → ℕ → Table
starting_at t s = record { states = t.states; names = t.names; transitions = t.transitions; start = s }

-- The same in prepared bytes: docs/FORMATS.md has the start in byte 5.
abbrev pub start_byte : ℕ
start_byte = 5

abbrev pub with_start : List ℕ → ℕ → List ℕ
with_start table s = set table start_byte s

-- An entry is right if it is above the one before it and the table, of so many states, has the state.
pub record RightAt (states : ℕ) (starts : List ℕ) (i : ℕ) : Type 0 where
  pub above : (j : ℕ) → suc j ≡ i → get_or starts j 0 < get_or starts i 0
  pub stands : get_or starts i 0 < states

-- 02: "an entry not above the one before it or naming a state the table lacks, the first such index"
pub record FirstWrong (states : ℕ) (starts : List ℕ) (i : ℕ) : Type 0 where
  pub listed : i < length starts
  pub wrong : RightAt states starts i → ⊥
  pub first : (j : ℕ) → j < i → RightAt states starts j

-- The same as a search. `least` is what the next entry may be at the least, i how many came before.
abbrev pub is_right : ℕ → ℕ → ℕ → Bool
is_right states least s = leb least s && ltb s states

abbrev pub wrong_from : ℕ → ℕ → ℕ → List ℕ → Option ℕ
wrong_from states least i [] = none
wrong_from states least i (s ∷ l) = cond (is_right states least s) (wrong_from states (suc s) (suc i) l) (some i)

unfoldable pub wrong_start : ℕ → List ℕ → Option ℕ
wrong_start states starts = wrong_from states 0 0 starts
