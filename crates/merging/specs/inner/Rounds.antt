-- What is known of the arrays of a round of partition refinement. A state's block is named by the lowest state in it.
use Rattle.std.specs.Prelude.{◌≡◌, Bool, List, ℕ, suc, ◌+◌, ◌*◌, ◌<◌, ◌≤◌, length, take, get_or}
use Rattle.lts.specs.inner.Answers.{Decides}
use Rattle.deterministic.specs.Sizes.{most_sets, most_letters}
use Rattle.deterministic.specs.inner.Blocks.{Table, block_of, refine, blocks}

-- An array has a block for each of n states, none named by a later state.
pub record Named (n : ℕ) (old : List ℕ) : Type 0 where
  pub long : n ≤ length old
  pub low : (k : ℕ) → k < n → get_or old k 0 ≤ k

-- Behind the blocks of the states stands the one of what is no state.
pub record Ended (n : ℕ) (names : List ℕ) : Type 0 where
  pub whole : length names ≡ suc most_sets
  pub last : get_or names most_sets 0 ≡ n

-- The block of the state that a column of state k leads to.
abbrev pub target_block : List ℕ → List ℕ → ℕ → ℕ → ℕ → ℕ
target_block next c n k i = get_or c (get_or next (k * most_letters + i) n) n

abbrev pub SameTargets : List ℕ → List ℕ → ℕ → ℕ → ℕ → ℕ → Type 0
SameTargets next c n columns j k = (i : ℕ) → i < columns → target_block next c n j i ≡ target_block next c n k i

-- The first k blocks are those of a round.
abbrev pub RoundTo : Table → List ℕ → List ℕ → ℕ → Type 0
RoundTo t c new k = (i : ℕ) → i < k → get_or new i 0 ≡ block_of t (refine t c) i

-- The first k blocks are as they were.
abbrev pub SameTo : List ℕ → List ℕ → ℕ → Type 0
SameTo old new k = (i : ℕ) → i < k → get_or new i 0 ≡ get_or old i 0

-- A round is made, and it is known whether it changed anything.
pub record Rounded (t : Table) (c d : List ℕ) (steady : Bool) : Type 0 where
  pub made : d ≡ refine t c
  pub same : Decides (refine t c ≡ c) steady

-- After the last round the blocks are the table's, none named by a later state.
pub record Merged (t : Table) (names : List ℕ) : Type 0 where
  pub are : take t.size names ≡ blocks t
  pub low : (k : ℕ) → k < t.size → get_or names k 0 ≤ k
