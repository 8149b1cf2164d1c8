-- The first pass: what a table's entries lead to, the blocks found, and what stands for each block.
use Rattle.std.specs.Prelude.{◌≡◌, Bool, cond, ℕ, zero, suc, ◌+◌, ◌*◌, ◌<◌, ◌≤◌, eqb, ltb, length, get_or, take}
use mathlib.Core.List.{List, [], ◌∷◌, ◌++◌, Memᴰ}
use Rattle.deterministic.specs.Sizes.{most_sets, most_letters}
use Rattle.deterministic.specs.inner.Arrays.{array_table}
use Rattle.deterministic.specs.inner.Blocks.{merged}
use Rattle.deterministic.specs.inner.Lists.{Distinct}
use Rattle.deterministic.specs.inner.Search.{System, number_of, seen, found, moves_upto}

-- The blocks as a system; final marks play no part in it.
abbrev pub block_system : List ℕ → List ℕ → ℕ → ℕ → System ℕ
block_system next blocks n columns = merged (array_table next [] n columns) (take n blocks)

-- The block of a state is a state.
abbrev pub Inside : List ℕ → ℕ → Type 0
Inside blocks n = (k : ℕ) → k < n → get_or blocks k 0 < n

-- What the arrays of n states have to be.
pub record Fits (next blocks : List ℕ) (n columns : ℕ) : Type 0 where
  pub all_next : length next ≡ most_sets * most_letters
  pub all_blocks : length blocks ≡ most_sets
  pub states : (0 < n) × (n ≤ most_sets)
  pub letters : (1 ≤ columns) × (columns ≤ most_letters)
  pub inside : Inside blocks n

-- A block becomes the last row, if it is none yet.
abbrev pub added : List ℕ → ℕ → List ℕ
added l b = cond (seen eqb l b) l (l ++ (b ∷ []))

-- What stands for a block: its number and one, or 0.
abbrev pub slot_of : List ℕ → ℕ → ℕ
slot_of l b = cond (seen eqb l b) (suc (number_of eqb l b)) 0

-- The first `count` rows, and what stands for each block.
pub record Rows (rows numbers : List ℕ) (count : ℕ) : Type 0 where
  pub long : length rows ≡ most_sets
  pub wide : length numbers ≡ most_sets
  pub few : count ≤ most_sets
  pub numbered : (b : ℕ) → get_or numbers b 0 ≡ slot_of (take count rows) b

-- Blocks below n, each once.
pub record Within (n : ℕ) (l : List ℕ) : Type 0 where
  pub distinct : Distinct l
  pub inside : (b : ℕ) → Memᴰ b l → b < n

module _ (next blocks : List ℕ) (n : ℕ) where
  -- Entry `at` of the table: whether it leads to a state, and that state's block.
  abbrev pub leads : ℕ → Bool
  leads at = ltb (get_or next at 0) n

  abbrev pub goal : ℕ → ℕ
  goal at = get_or blocks (get_or next at 0) 0

  abbrev pub taken : ℕ → List ℕ → List ℕ
  taken at l = cond (leads at) (added l (goal at)) l

  -- Of k entries from `at` on: the rows behind them, and how many lead to a state.
  unfoldable pub taken_from : ℕ → ℕ → List ℕ → List ℕ
  taken_from at zero l = l
  taken_from at (suc k) l = taken_from (suc at) k (taken at l)

  unfoldable pub count_from : ℕ → ℕ → ℕ
  count_from at zero = 0
  count_from at (suc k) = cond (leads at) 1 0 + count_from (suc at) k

-- The search found these rows, and counted their edges.
pub record IsFound (next blocks : List ℕ) (n columns : ℕ) (rows numbers : List ℕ) (count edges : ℕ) : Type 0 where
  pub stand : Rows rows numbers count
  pub within : Within n (take count rows)
  pub all : take count rows ≡ found (block_system next blocks n columns) n
  pub counted : edges ≡ length (moves_upto (block_system next blocks n columns) (take count rows) count)
