-- What answering a list over prepared bytes says and leaves.
use Rattle.std.specs.Prelude.{◌≡◌, Bool, cond, List, ℕ, Result}
use Rattle.std.proofs.Math.Option.{some}
use Rattle.lts.specs.Reply.{Reply, accepted, overwritten, left_in, answers}
use Rattle.lts.specs.Steps.{labels}
use Rattle.lts.specs.inner.Prepared.{table_in}
use Rattle.actl.specs.Formulas.{Formula}
use Rattle.actl.specs.Reading.{unless_found}
use Rattle.actl.specs.inner.Prepared.{prepared_formula}
use Rattle.starts.specs.Starts.{wrong_start}
use Rattle.starts.specs.VerdictsAsked.{verdicts_at, joint}
use Rattle.verdicts.specs.Replies.{verdicts_reply}
use Rattle.verdicts.specs.declared.VerdictsRefusal.{VerdictsRefusal}

-- Of a list without a wrong entry: the bytes, before and after, and the joint answer.
pub record Answered (table formula starts buffer buffer' : List ℕ) (all : Bool) : Type 0 where
  pub left : (F : Formula) → prepared_formula (labels (table_in table)) formula ≡ some F → buffer' ≡ overwritten (verdicts_at (table_in table) F starts) buffer
  pub jointly : (F : Formula) → prepared_formula (labels (table_in table)) formula ≡ some F → cond all 1 0 ≡ joint (verdicts_at (table_in table) F starts)

abbrev pub list_reply : List ℕ → List ℕ → Formula → Reply (List ℕ)
list_reply table starts F = unless_found (wrong_start (table_in table).states starts) 16 (accepted (verdicts_at (table_in table) F starts))

-- Of any list.
pub record ListAnswered (table formula starts buffer buffer' : List ℕ) (r : Result Bool VerdictsRefusal) : Type 0 where
  pub replies : (F : Formula) → prepared_formula (labels (table_in table)) formula ≡ some F → verdicts_reply r ≡ answers joint (list_reply table starts F)
  pub leaves : (F : Formula) → prepared_formula (labels (table_in table)) formula ≡ some F → buffer' ≡ left_in (λ vs. vs) (list_reply table starts F) buffer
