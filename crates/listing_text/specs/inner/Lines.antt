-- A listing's summary, the numbers in the lines of its rows and of its edges, and what writing lines one behind the other asks for and leaves.
use Rattle.std.specs.Prelude.{◌≡◌, List, [], ◌∷◌, ℕ, ◌+◌, ◌*◌, ◌≤◌, ◌<◌, length, take}
use Rattle.automaton.specs.Bytes.{row_state, row_final, edge_at}
use Rattle.columns.specs.Lines.{numbers_line}
use Rattle.columns.specs.inner.Write.{pasted}
use Rattle.listing.specs.inner.Places.{row_place}
use Rattle.lts.specs.inner.Lists.{up_from}
use Rattle.lts.specs.Lists.{bind}
use Rattle.explanations.specs.Explanation.{Summary}

abbrev pub summary_of : ℕ → ℕ → ℕ → ℕ → Summary
summary_of verdict class rows edges = record { verdict = verdict; class = class; rows = rows; edges = edges }

-- The numbers of a row, and those of an edge, whose last one is not printed.
abbrev pub row_numbers : List ℕ → ℕ → List ℕ
row_numbers rows i = i ∷ row_place rows i ∷ row_state rows i ∷ row_final rows i ∷ []

abbrev pub edge_numbers : List ℕ → ℕ → List ℕ
edge_numbers edges j = (edge_at edges j).row ∷ (edge_at edges j).label ∷ (edge_at edges j).target ∷ 0 ∷ []

-- Whichever numbers are given for a line below `count`, it is this one.
abbrev pub Says : (ℕ → List ℕ → Type 0) → ℕ → ℕ → (ℕ → List ℕ) → Type 0
Says gives width count line = (i : ℕ) (numbers : List ℕ) → i < count → gives i numbers → numbers_line (take width numbers) ≡ line i

-- Numbers may be asked for each line, each of them takes six columns, and behind the lines there is room for what `write_numbers` asks for.
pub record LinesFit (may : ℕ → Type 0) (gives : ℕ → List ℕ → Type 0) (width count at : ℕ) (out : List ℕ) : Type 0 where
  pub asked : (i : ℕ) → i < count → may i
  pub few : width ≤ 4
  pub wide : (i : ℕ) (numbers : List ℕ) → i < count → gives i numbers → length (numbers_line (take width numbers)) ≡ width * 6 + 1
  pub room : at + count * (width * 6 + 1) + 81 ≤ length out

pub record LinesWritten (line : ℕ → List ℕ) (width count at : ℕ) (before out : List ℕ) (end : ℕ) : Type 0 where
  pub is : out ≡ pasted before at (bind line (up_from 0 count))
  pub ends : end ≡ at + length (bind line (up_from 0 count))
  pub wide : end ≡ at + count * width
