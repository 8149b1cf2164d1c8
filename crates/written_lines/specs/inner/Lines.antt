-- What writing the lines takes and leaves.
use Rattle.std.specs.Prelude.{◌≡◌, List, ℕ, suc, ◌+◌, ◌*◌, length}
use Rattle.columns.specs.inner.Kept.{ColumnsKept}
use Rattle.columns.specs.inner.Write.{pasted}
use Rattle.lts.specs.Sizes.{most_states}
use Rattle.lts.specs.Steps.{Table, labels}
use Rattle.lts.specs.Text.{ended, header_line}

-- How many bytes a line has, with its LF: the first one, a label's at most, a transition's.
abbrev pub head_length : ℕ
head_length = 25

abbrev pub label_width : ℕ
label_width = 21

abbrev pub step_width : ℕ
step_width = 19

-- The columns of all states and of all labels are kept: six bytes for each number.
abbrev pub kept_length : ℕ
kept_length = most_states * 6

pub record NumbersKept (t : Table) (kept : List ℕ) : Type 0 where
  pub of_states_lem : ColumnsKept t.states kept
  pub of_labels : ColumnsKept (suc (labels t)) kept

abbrev pub first_line_of : Table → List ℕ
first_line_of t = ended (header_line t.states (labels t) (length t.transitions) t.start)

-- A text that was written into a buffer at a place, and where it ends.
pub record Stands (text : List ℕ) (at : ℕ) (before after : List ℕ) (end : ℕ) : Type 0 where
  pub is : after ≡ pasted before at text
  pub ends : end ≡ at + length text
