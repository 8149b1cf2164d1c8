-- What `write_back` answers and leaves.
use Rattle.std.specs.Prelude.{◌≡◌, List, ℕ, length}
use Rattle.lts.specs.Reply.{left_in}
use Rattle.replies.specs.inner.Says.{Says}
use Rattle.replies.specs.declared.Answer.{Answer}
use Rattle.formula_line.specs.LineText.{written_back}

-- The texts; the buffer, before and after; the answer.
pub record WroteBack (table_text text buffer buffer' : List ℕ) (a : Answer) : Type 0 where
  pub says : Says length (written_back table_text text) a
  pub left : buffer' ≡ left_in (λ s. s) (written_back table_text text) buffer
