-- What the C function of `explain` returns, writes and leaves.
use Rattle.std.specs.Prelude.{◌≡◌, List, ℕ, Result}
use Rattle.lts.specs.Reply.{Reply}
use Rattle.explanations.specs.Explanation.{Explanation, explain_replied, table_explained, formula_explained, rows_explained, edges_explained}
use Rattle.replies.specs.Interface.{number_in, figure_in, kept_in}
use Rattle.explaining.specs.Promise.{Promise}
use Rattle.explaining.specs.declared.explained.Explained.{Explained}
use Rattle.replies.specs.declared.Answer.{Answer}

-- "accepted, `*figure` is the row count and the three others are written; refused, `*figure` is the figure and the others stay"
-- The number and the figure; verdict, class and count of edges, before and after; each lent buffer, before and after.
pub record Returned (e : Reply Explanation) (number figure verdict verdict' class class' count count' : ℕ) (table table' formula formula' rows rows' edges edges' : List ℕ) : Type 0 where
  pub number_said : number ≡ number_in (explain_replied e)
  pub figure_said : figure ≡ figure_in (λ s. s.rows) (explain_replied e)
  pub verdict_left : verdict' ≡ kept_in (λ s. s.verdict) verdict (explain_replied e)
  pub class_left : class' ≡ kept_in (λ s. s.class) class (explain_replied e)
  pub count_left : count' ≡ kept_in (λ s. s.edges) count (explain_replied e)
  pub table_left_lem : table' ≡ table_explained e table
  pub formula_left_lem : formula' ≡ formula_explained e formula
  pub rows_left : rows' ≡ rows_explained e rows
  pub edges_left_lem : edges' ≡ edges_explained e edges

-- And all that `explain` promises, of some reply with this number and these values (`outcome` says which).
abbrev pub Promised : (table_text formula_text table table' formula formula' rows rows' edges edges' : List ℕ) → Type 0
Promised table_text formula_text table table' formula formula' rows rows' edges edges' =
    (r : Result Explained Answer) × Promise table_text formula_text table table' formula formula' rows rows' edges edges' r
