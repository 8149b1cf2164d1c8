-- What a round reads in the packed columns: which states are alike, and the first block that is like a state.
use Rattle.std.specs.Prelude.{◌≡◌, Bool, false, List, ℕ, suc, ◌+◌, ◌*◌, ◌<◌, ◌≤◌, length, get_or}
use Rattle.deterministic.specs.Sizes.{most_sets, most_letters, work_length}
use Rattle.packed_steps.specs.inner.Packed.{entry_at}

-- What a round may read: columns of n states, and the block of every target.
pub record Ready (b : List ℕ) (n many : ℕ) (old : List ℕ) : Type 0 where
  pub few : n ≤ most_sets
  pub few_columns : many ≤ most_letters
  pub long : work_length ≤ length b
  pub small : (i k : ℕ) → i < many → k < n → entry_at b (i * most_sets + k) ≤ most_sets
  pub whole : length old ≡ suc most_sets
  pub last : get_or old most_sets 0 ≡ n

-- Two states have targets of one block in each column.
abbrev pub SameIn : List ℕ → List ℕ → ℕ → ℕ → ℕ → Type 0
SameIn b old many j k = (i : ℕ) → i < many → get_or old (entry_at b (i * most_sets + j)) 0 ≡ get_or old (entry_at b (i * most_sets + k)) 0

-- Also one old block and one mark.
pub record Alike (b : List ℕ) (marks : List Bool) (old : List ℕ) (many j k : ℕ) : Type 0 where
  pub block : get_or old j 0 ≡ get_or old k 0
  pub mark : get_or marks j false ≡ get_or marks k false
  pub targets : SameIn b old many j k

-- A state that names its own new block and is like k.
pub record IsBlock (b : List ℕ) (marks : List Bool) (old new : List ℕ) (many k j : ℕ) : Type 0 where
  pub own : get_or new j 0 ≡ j
  pub like : Alike b marks old many j k

-- The first number from a on, before k, of which P holds; k if there is none.
pub record First (P : ℕ → Type 0) (a k r : ℕ) : Type 0 where
  pub within : r ≤ k
  pub is : r < k → P r
  pub none_before : (j : ℕ) → a ≤ j → j < r → P j → ⊥
