-- What `explain_head` answers, and leaves in the places for the rows and the edges.
use Rattle.std.specs.Prelude.{◌≡◌, List, ℕ, Result}
use Rattle.explanations.specs.Explanation.{explanation, explain_replied, rows_explained, edges_explained}
use Rattle.explaining.specs.Replies.{explain_reply}
use Rattle.explaining.specs.declared.explained.Explained.{Explained}
use Rattle.replies.specs.declared.Answer.{Answer}

-- The texts; the reply; each place, before and after.
pub record Replied (table_text text : List ℕ) (r : Result Explained Answer) (rows rows' edges edges' : List ℕ) : Type 0 where
  pub reply : explain_reply r ≡ explain_replied (explanation table_text text rows edges)
  pub rows_left : rows' ≡ rows_explained (explanation table_text text rows edges) rows
  pub edges_left_lem : edges' ≡ edges_explained (explanation table_text text rows edges) edges
