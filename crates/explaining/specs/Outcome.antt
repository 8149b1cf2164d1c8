-- What `explain` answers and leaves: the reply, and each lent buffer before and after, as an explanation says.
use Rattle.std.specs.Prelude.{◌≡◌, List, ℕ, Result}
use Rattle.lts.specs.Reply.{Reply}
use Rattle.explanations.specs.Explanation.{Explanation, explain_replied, table_explained, formula_explained, rows_explained, edges_explained}
use Rattle.explaining.specs.Replies.{explain_reply}
use Rattle.explaining.specs.declared.explained.Explained.{Explained}
use Rattle.replies.specs.declared.Answer.{Answer}

pub record Outcome (e : Reply Explanation) (r : Result Explained Answer) (table table' formula formula' rows rows' edges edges' : List ℕ) : Type 0 where
  pub reply : explain_reply r ≡ explain_replied e
  pub table_left_lem : table' ≡ table_explained e table
  pub formula_left_lem : formula' ≡ formula_explained e formula
  pub rows_left : rows' ≡ rows_explained e rows
  pub edges_left_lem : edges' ≡ edges_explained e edges
