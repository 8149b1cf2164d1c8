-- The steps of a table in bytes, as refinement reads them: column i has two bytes for each of 256 states, the low one first. A target that is no
-- state is told by 256, where the blocks of an array have that of what is no state. Columns in which no state leads to a state are left out.
use Rattle.std.specs.Prelude.{◌≡◌, ◌⊎◌, cond, List, ℕ, ◌+◌, ◌*◌, ◌<◌, ◌≤◌, ltb, length, get_or, drop}
use Rattle.deterministic.specs.Sizes.{most_sets, most_letters, work_length}

-- The number in the two bytes of place p.
unfoldable pub entry_at : List ℕ → ℕ → ℕ
entry_at b p = get_or b (p * 2) 0 + get_or b (p * 2 + 1) 0 * 256

-- One place is written.
pub record EntryPut (before : List ℕ) (p x : ℕ) (after : List ℕ) : Type 0 where
  pub long : length after ≡ length before
  pub put : entry_at after p ≡ x
  pub others : (q : ℕ) → (q ≡ p → ⊥) → entry_at after q ≡ entry_at before q
  pub behind : drop work_length after ≡ drop work_length before

abbrev pub target_in : ℕ → ℕ → ℕ
target_in n x = cond (ltb x n) x most_sets

-- Column i of the bytes has the targets of the first k states in column c.
abbrev pub ColumnIs : List ℕ → ℕ → ℕ → ℕ → ℕ → List ℕ → Type 0
ColumnIs next n c i k b = (l : ℕ) → l < k → entry_at b (i * most_sets + l) ≡ target_in n (get_or next (l * most_letters + c) n)

-- Of the first k states none leads to a state by column c.
abbrev pub Nowhere : List ℕ → ℕ → ℕ → ℕ → Type 0
Nowhere next n c k = (l : ℕ) → l < k → n ≤ get_or next (l * most_letters + c) n

-- A column is written as far as state k, and the columns before it stayed.
pub record ColumnTo (next : List ℕ) (n c i k : ℕ) (before after : List ℕ) : Type 0 where
  pub long : length after ≡ length before
  pub behind : drop work_length after ≡ drop work_length before
  pub stayed : (p : ℕ) → p < i * most_sets → entry_at after p ≡ entry_at before p
  pub put : ColumnIs next n c i k after

-- The sizes of a table: its array, its states and its columns.
pub record Sized (next : List ℕ) (n columns : ℕ) : Type 0 where
  pub whole : length next ≡ most_sets * most_letters
  pub few : n ≤ most_sets
  pub some_column : 1 ≤ columns
  pub few_columns : columns ≤ most_letters

-- Each of the columns in the bytes is one of the table's, and each other column of the table leads nowhere.
pub record Packed (next : List ℕ) (n columns : ℕ) (b : List ℕ) (many : ℕ) : Type 0 where
  pub few : many ≤ columns
  pub of : (i : ℕ) → i < many → (c : ℕ) × (c < columns) × ColumnIs next n c i n b
  pub to : (c : ℕ) → c < columns → ((i : ℕ) × (i < many) × ColumnIs next n c i n b) ⊎ Nowhere next n c n
