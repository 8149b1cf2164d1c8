-- What reading the list leaves, and the lines of the entries.
use Rattle.std.specs.Prelude.{◌≡◌, List, [], ◌∷◌, ◌++◌, ℕ, ◌≤◌, ◌<◌, length, get_or, take}
use Rattle.columns.specs.Lines.{numbers_line}
use Rattle.lts.specs.Lists.{bind}
use Rattle.lts.specs.Sizes.{most_states}
use Rattle.lts.specs.inner.Lists.{up_from}
use Rattle.verdict_text.specs.VerdictsText.{entries_in}

-- The list's numbers as bytes, up to the first that is none.
pub record ListRead (list starts : List ℕ) (count : ℕ) : Type 0 where
  pub few : count ≤ length (entries_in list)
  pub same : take count starts ≡ take count (entries_in list)
  pub stops : count < length (entries_in list) → most_states ≤ get_or (entries_in list) count 0
  pub places : length starts ≡ 257

-- The line of entry i, by the bytes of the list and of the answers.
abbrev pub entry_line : List ℕ → List ℕ → ℕ → List ℕ
entry_line starts answers i = numbers_line (get_or starts i 0 ∷ get_or answers i 0 ∷ [])

abbrev pub entry_lines : ℕ → ℕ → List ℕ → List ℕ → List ℕ
entry_lines answer count starts answers = numbers_line (answer ∷ count ∷ []) ++ bind (entry_line starts answers) (up_from 0 count)
