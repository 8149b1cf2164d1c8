-- What a line of a table's text says: that it is laid out, its values, and where the next one starts.
use Rattle.std.specs.Prelude.{◌≡◌, Bool, true, false, List, ℕ, ◌+◌, ◌-◌, ◌≤◌, length, take, drop}
use Rattle.columns.specs.Columns.{value_at}
use Rattle.lts.specs.Reading.{line, first_line}
use Rattle.lts.specs.inner.Reading.{label_laid_out}

-- The line l starts at `at` and the next one at `to`.
pub record LineAt (laid : List ℕ → Bool) (s : List ℕ) (at to : ℕ) (l : List ℕ) : Type 0 where
  pub is_line : first_line (drop at s) ≡ line l (drop to s)
  pub laid_out : laid l ≡ true
  pub within : to ≤ length s

-- No line that is laid out starts at `at`.
abbrev pub NoLineAt : (List ℕ → Bool) → List ℕ → ℕ → Type 0
NoLineAt laid s at = (l rest : List ℕ) → first_line (drop at s) ≡ line l rest → laid l ≡ false

pub record Labelled (s : List ℕ) (at number end : ℕ) : Type 0 where
  pub bytes : List ℕ
  pub lies : LineAt label_laid_out s at (end + 1) bytes
  pub numbered : value_at 0 bytes ≡ number
  pub starts : at + 7 ≤ end
  pub ends : end ≤ at + 20
  pub name : drop 7 bytes ≡ take (end - (at + 7)) (drop (at + 7) s)
