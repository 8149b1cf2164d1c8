-- A frontier: the positions that a word has reached. For each of 256 states the mask of its places; behind them, in four masks, the states
-- that have places. A state without its bit there has none, whatever its own mask says.
use Rattle.std.specs.Prelude.{◌≡◌, Bool, true, false, cond, List, ℕ, zero, suc, ◌+◌, ◌/◌, ◌%◌, ◌^◌, ◌≤◌, ◌<◌, get_or, set, replicate}
use Rattle.std.specs.Int.Bits.{bit_or}
use Rattle.frontier.specs.inner.Sizes.{frontier_length}
use Rattle.lts.specs.Sizes.{most_states}
use Rattle.bits.specs.inner.Bits.{bit_at}

abbrev pub marks_at : List ℕ → ℕ → ℕ
marks_at frontier s = get_or frontier (most_states + s / 64) 0

abbrev pub has_state : List ℕ → ℕ → Bool
has_state frontier s = bit_at (marks_at frontier s) (s % 64)

abbrev pub places_at : List ℕ → ℕ → ℕ
places_at frontier s = cond (has_state frontier s) (get_or frontier s 0) 0

abbrev pub nowhere : List ℕ
nowhere = replicate frontier_length 0

-- No state has places any more.
abbrev pub emptied : List ℕ → List ℕ
emptied frontier = set (set (set (set frontier most_states 0) (most_states + 1) 0) (most_states + 2) 0) (most_states + 3) 0

-- Places brought to a state.
unfoldable pub brought : ℕ → ℕ → List ℕ → List ℕ
brought s places frontier = set (set frontier s (bit_or (places_at frontier s) places)) (most_states + s / 64) (bit_or (marks_at frontier s) (2 ^ (s % 64)))

-- What n numbers from k on make of a, one after the other.
unfoldable pub through : {A : Type 0} → (ℕ → A → A) → ℕ → ℕ → A → A
through f zero k a = a
through f (suc n) k a = through f n (suc k) (f k a)

-- The places of all states together.
abbrev pub places_added : List ℕ → ℕ → ℕ → ℕ
places_added frontier s found = cond (has_state frontier s) (bit_or found (get_or frontier s 0)) found

abbrev pub all_places : List ℕ → ℕ
all_places frontier = through (places_added frontier) most_states 0 0

-- The first number from k on that passes a test; n or more, if there is none below n.
pub record FirstFrom (p : ℕ → Bool) (k n r : ℕ) : Type 0 where
  pub from : k ≤ r
  pub none : (j : ℕ) → k ≤ j → j < r → p j ≡ false
  pub found : r < n → p r ≡ true
