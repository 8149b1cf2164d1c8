-- What asking for the automaton answers and leaves: over prepared bytes, and over two texts.
use Rattle.std.specs.Prelude.{◌≡◌, List, ℕ, ◌≤◌, length, replicate}
use Rattle.lts.specs.Reply.{left_in, answers}
use Rattle.automaton.specs.Build.{Counts}
use Rattle.explanations.specs.inner.Sizes.{rows_length, edges_length}
use Rattle.replies.specs.inner.Says.{Says}
use Rattle.replies.specs.declared.Answer.{Answer}
use Rattle.deterministic.specs.Sizes.{work_length}
use Rattle.deterministic.specs.SmallestAsked.{counts_beside, smallest_bytes, smallest_replied, smallest_left}
use Rattle.smallest_lines.specs.SmallestText.{lent_smallest}

-- The places that `explain` lends.
abbrev pub lent_rows : List ℕ
lent_rows = replicate rows_length 0

abbrev pub lent_edges : List ℕ
lent_edges = replicate edges_length 0

abbrev pub rows_in : Counts → ℕ
rows_in c = c.rows

-- The prepared bytes; the buffer, before and after; the answer. A work buffer is lent besides.
pub record Found (table formula buffer buffer' : List ℕ) (a : Answer) : Type 0 where
  pub work : List ℕ
  pub enough : work_length ≤ length work
  pub says : Says rows_in (smallest_replied table formula lent_rows lent_edges buffer work) a
  pub left : buffer' ≡ smallest_left table formula lent_rows lent_edges buffer work

-- The texts; the buffer, before and after; the answer.
pub record Asked (table_text text buffer buffer' : List ℕ) (a : Answer) : Type 0 where
  pub says : Says rows_in (answers counts_beside (lent_smallest table_text text)) a
  pub left : buffer' ≡ left_in smallest_bytes (lent_smallest table_text text) buffer
