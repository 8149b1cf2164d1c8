-- The promise of `explain`, for each way that it returns.
use mathlib.Core.Path.{◌≡◌, sym, ◌∙◌, subst₂, subst₃}
use mathlib.Core.List.{List}
use Prim.Native.Nat.{ℕ, ◌≤◌, ◌<◌}
use Rattle.std.proofs.Common.{Result, Err}
use lib.Dec.{leb}
use lib.ListN.{length}
use borrow.Author.Tests.{le-leb, lt-leb}
use Rattle.actl.specs.Sizes.{formula_length}
use Rattle.lts.specs.Sizes.{table_length}
use Rattle.lts.specs.Reply.{Reply, refusal}
use Rattle.explanations.specs.InOneCall.{FromTexts}
use Rattle.explanations.specs.Explanation.{Explanation, summary, explain_replied, table_explained, formula_explained, explanation, explaining}
use Rattle.explaining.specs.Outcome.{Outcome}
use Rattle.explaining.specs.Promise.{Promise}
use Rattle.explaining.specs.declared.explained.Explained.{Explained}
use Rattle.replies.specs.declared.Answer.{Answer}
use Rattle.explaining.proofs.Into.{same_outcome, refusal-outcome}
use Rattle.explanations.proofs.Demands.{explain_explains}
use Rattle.explanations.proofs.Grammatical.{explaining-longest}
use Rattle.lts.proofs.Laws.Refusals.{answers-refused, unless-false}
use Rattle.lts.proofs.Laws.Reading.{unless-to}

module _ (table_text formula_text table formula rows edges : List ℕ) where
  abbrev E : Reply Explanation
  E = explaining table_text formula_text table formula rows edges

  pub promised : (r : Result Explained Answer) (table' formula' rows' edges' : List ℕ) → Outcome E r table table' formula formula' rows rows' edges edges'
      → Promise table_text formula_text table table' formula formula' rows rows' edges edges' r
  promised r table' formula' rows' edges' s = record {
    outcome = s;
    longest = λ n e. explaining-longest table_text formula_text table formula rows edges n ((answers-refused summary E 6 n).0 (sym s.reply ∙ e));
    demands =
        subst₃ (λ x y z. FromTexts table_text formula_text x y z rows' edges') (sym s.reply) (sym s.table_left_lem) (sym s.formula_left_lem)
        (subst₂ (FromTexts table_text formula_text (explain_replied E) (table_explained E table) (formula_explained E formula)) (sym s.rows_left) (sym s.edges_left_lem)
        (explain_explains table_text formula_text table formula rows edges));
  }

  pub promised_refusal : (a : Answer) → E ≡ refusal a.number a.figure → Promise table_text formula_text table table formula formula rows rows edges edges (Err a)
  promised_refusal a z = promised (Err a) table formula rows edges (refusal-outcome a z)

  pub short-table : length table < table_length → E ≡ refusal 14 table_length
  unfolding explaining
  short-table h = unless-false (leb table_length (length table)) 14 table_length _ (lt-leb table_length (length table) h)

  pub short-formula : table_length ≤ length table → length formula < formula_length → E ≡ refusal 14 formula_length
  unfolding explaining
  short-formula g h =
      unless-to (leb table_length (length table)) 14 table_length _ (le-leb table_length (length table) g)
      ∙ unless-false (leb formula_length (length formula)) 14 formula_length _ (lt-leb formula_length (length formula) h)

  pub long-enough : table_length ≤ length table → formula_length ≤ length formula → E ≡ explanation table_text formula_text rows edges
  unfolding explaining
  long-enough g h =
      unless-to (leb table_length (length table)) 14 table_length _ (le-leb table_length (length table) g)
      ∙ unless-to (leb formula_length (length formula)) 14 formula_length _ (le-leb formula_length (length formula) h)

  pub promised_explanation : table_length ≤ length table → formula_length ≤ length formula → (r : Result Explained Answer) (table' formula' rows' edges' : List ℕ)
      → Outcome (explanation table_text formula_text rows edges) r table table' formula formula' rows rows' edges edges'
      → Promise table_text formula_text table table' formula formula' rows rows' edges edges' r
  promised_explanation g h r table' formula' rows' edges' s = promised r table' formula' rows' edges' (same_outcome (long-enough g h) s)
