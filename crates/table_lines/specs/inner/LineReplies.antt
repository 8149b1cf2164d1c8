-- What the readers of lines answer of a text.
use Rattle.std.specs.Prelude.{◌≡◌, List, Option, Some, None, ℕ, ◌+◌, get_or}
use Rattle.lts.specs.Steps.{Step}
use Rattle.tables.specs.inner.Access.{step_in}
use Rattle.lts.specs.Reading.{Header, header_of, header_laid_out, step_of, step_laid_out}
use Rattle.lts.specs.inner.Reading.{label_laid_out}
use Rattle.columns.specs.inner.Read.{column_at}
use Rattle.table_lines.specs.declared.HeaderFields.{HeaderFields}
use Rattle.table_lines.specs.declared.LabelFields.{LabelFields}
use Rattle.tables.specs.declared.prepared.Transition.{Transition}
use Rattle.lts.specs.inner.Lines.{LineAt, NoLineAt, Labelled}

-- The numbers in two columns in a row, if both hold one.
abbrev pub pair_of : Option ℕ → Option ℕ → Option (ℕ × ℕ)
pair_of (Some a) (Some b) = Some (a, b)
pair_of (Some a) None = None
pair_of None y = None

unfoldable pub pair_at : List ℕ → ℕ → Option (ℕ × ℕ)
pair_at s at = pair_of (column_at s at) (column_at s (at + 6))

-- The values in the words of reading.
abbrev pub header : HeaderFields → Header
header c = record { states = c.states; labels = c.labels; transitions = c.transitions; start = c.start }

abbrev pub HeaderAnswer : List ℕ → Option HeaderFields → Type 0
HeaderAnswer s (Some c) = (l : List ℕ) × LineAt (λ l. header_laid_out (header_of l) l) s 0 25 l × (header_of l ≡ header c)
HeaderAnswer s None = NoLineAt (λ l. header_laid_out (header_of l) l) s 0

abbrev pub LabelAnswer : List ℕ → ℕ → Option LabelFields → Type 0
LabelAnswer s at (Some l) = Labelled s at l.number l.end
LabelAnswer s at None = NoLineAt label_laid_out s at

-- The three numbers of a transition stand at `at`: they are a line if an LF stands behind them, and else there is none.
pub record NumbersAt (s : List ℕ) (at : ℕ) (t : Step) : Type 0 where
  pub ended : get_or s (at + 18) 256 ≡ 10 → (l : List ℕ) × LineAt step_laid_out s at (at + 19) l × (step_of l ≡ t)
  pub unended : (get_or s (at + 18) 256 ≡ 10 → ⊥) → NoLineAt step_laid_out s at

abbrev pub TransitionAnswer : List ℕ → ℕ → Option Transition → Type 0
TransitionAnswer s at (Some t) = NumbersAt s at (step_in t)
TransitionAnswer s at None = NoLineAt step_laid_out s at
