-- The second pass: the bytes of edges, by what the arrays hold.
use Rattle.std.specs.Prelude.{◌≡◌, Bool, false, cond, List, [], ◌∷◌, ◌++◌, map, ℕ, zero, suc, ◌+◌, ◌-◌, ◌*◌, ◌<◌, ◌≤◌, length, get_or, take}
use Rattle.columns.specs.inner.Write.{pasted}
use Rattle.automaton.specs.Bytes.{bit_of}
use Rattle.deterministic.specs.Sizes.{most_sets, most_letters}
use Rattle.deterministic.specs.inner.Arrays.{letter_of}
use Rattle.block_numbers.specs.inner.Found.{leads, goal}

-- Bytes are put in place, and end there.
pub record Put (bytes before : List ℕ) (at : ℕ) (after : List ℕ) (end : ℕ) : Type 0 where
  pub is : after ≡ pasted before at bytes
  pub ends : end ≡ at + length bytes

-- A block's mark, and those of the first `count` rows.
abbrev pub mark_of : List Bool → ℕ → ℕ
mark_of marks b = bit_of (get_or marks b false)

abbrev pub marks_of : List Bool → List ℕ → ℕ → List ℕ
marks_of marks rows count = map (mark_of marks) (take count rows)

module _ (next blocks numbers : List ℕ) (n columns : ℕ) where
  -- Row i, whose entries are from `first` on: the edge of column c, if there is one.
  abbrev pub step_in : ℕ → ℕ → ℕ → List ℕ
  step_in i first c = cond (leads next blocks n (first + c)) (i ∷ letter_of columns c ∷ (get_or numbers (goal next blocks n (first + c)) 0 - 1) ∷ []) []

  -- Of k columns from c on.
  unfoldable pub steps_in : ℕ → ℕ → ℕ → ℕ → List ℕ
  steps_in i first c zero = []
  steps_in i first c (suc k) = step_in i first c ++ steps_in i first (suc c) k

  -- Of k rows from row i on.
  unfoldable pub edges_in : List ℕ → ℕ → ℕ → List ℕ
  edges_in rows i zero = []
  edges_in rows i (suc k) = steps_in i (get_or rows i 0 * most_letters) 0 columns ++ edges_in rows (suc i) k

  -- A block that an entry leads to has a number.
  abbrev pub Numbered : ℕ → Type 0
  Numbered at = get_or next at 0 < n → (0 < get_or numbers (goal next blocks n at) 0) × (get_or numbers (goal next blocks n at) 0 ≤ most_sets)

  -- So it is for the entries of the block p, which is one.
  pub record RowFits (p : ℕ) : Type 0 where
    pub block : p < most_sets
    pub numbered : (c : ℕ) → c < columns → Numbered (p * most_letters + c)
