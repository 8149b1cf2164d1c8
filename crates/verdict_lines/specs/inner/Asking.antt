-- What asking for the verdicts at a list takes and leaves.
use Rattle.std.specs.Prelude.{◌≡◌, List, ℕ}
use Rattle.lts.specs.Reply.{Reply, accepted, left_in}
use Rattle.lts.specs.Reading.{read_table}
use Rattle.lts.specs.Steps.{Table}
use Rattle.actl.specs.Formulas.{Formula}
use Rattle.actl.specs.Reading.{unless_found}
use Rattle.actl.specs.inner.Reading.{read_formula}
use Rattle.explanations.specs.Explanation.{and_then}
use Rattle.replies.specs.inner.Says.{Says}
use Rattle.replies.specs.declared.Answer.{Answer}
use Rattle.starts.specs.Starts.{wrong_start}
use Rattle.starts.specs.VerdictsAsked.{verdicts_at, joint}

-- The verdicts at a list, over two texts.
abbrev pub verdicts_of : List ℕ → Table → Formula → Reply (List ℕ)
verdicts_of starts t F = unless_found (wrong_start t.states starts) 16 (accepted (verdicts_at t F starts))

unfoldable pub verdicts_over : List ℕ → List ℕ → List ℕ → Reply (List ℕ)
verdicts_over table_text text starts =
    and_then (read_table table_text) (λ t.
    and_then (read_formula t.names text) (λ F. verdicts_of starts t F))

-- The texts and the list; the buffer, before and after; the answer.
pub record Asked (table_text text starts buffer buffer' : List ℕ) (a : Answer) : Type 0 where
  pub says : Says joint (verdicts_over table_text text starts) a
  pub left : buffer' ≡ left_in (λ vs. vs) (verdicts_over table_text text starts) buffer
