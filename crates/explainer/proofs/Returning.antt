-- What the C function of `explain` returns, writes and leaves, out of the promise of `explain`.
use mathlib.Core.List.{List}
use Prim.Native.Nat.{ℕ}
use Rattle.std.proofs.Common.{Result}
use Rattle.lts.specs.Reply.{Reply}
use Rattle.explanations.specs.Explanation.{Summary, explaining}
use Rattle.replies.specs.inner.Says.{Says}
use Rattle.replies.specs.declared.Answer.{Answer}
use Rattle.explainer.specs.Interface.{Returned}
use Rattle.explaining.specs.Promise.{Promise}
use Rattle.explaining.specs.Replies.{explain_reply}
use Rattle.explaining.specs.inner.Values.{ValuesLeft}
use Rattle.explaining.specs.declared.explained.Explained.{Explained}
use Rattle.explaining.specs.declared.explained.Values.{Values}
use Rattle.explaining.proofs.Answers.{said_of, kept_of}

module _ {table_text formula_text table table' formula formula' rows rows' edges edges' : List ℕ} {r : Result Explained Answer}
    (p : Promise table_text formula_text table table' formula formula' rows rows' edges edges' r) where
  pub returned : {a : Answer} → Says (λ s. s.rows) (explain_reply r) a → {before after : Values} → ValuesLeft (explain_reply r) before after
      → Returned (explaining table_text formula_text table formula rows edges) a.number a.figure
      before.verdict after.verdict before.class after.class before.edges after.edges
      table table' formula formula' rows rows' edges edges'
  returned says {before} left =
      let outcome = p.outcome in
      let said = said_of says outcome.reply in
      record {
        number_said = said.number_said;
        figure_said = said.figure_said;
        verdict_left = kept_of (λ (s : Summary). s.verdict) before.verdict left.verdict_left outcome.reply;
        class_left = kept_of (λ (s : Summary). s.class) before.class left.class_left outcome.reply;
        count_left = kept_of (λ (s : Summary). s.edges) before.edges left.edges_left_lem outcome.reply;
        table_left_lem = outcome.table_left_lem;
        formula_left_lem = outcome.formula_left_lem;
        rows_left = outcome.rows_left;
        edges_left_lem = outcome.edges_left_lem;
      }
