-- The verdicts over two texts: both readings, then what is asked of the table and the formula that were read.
use mathlib.Core.Path.{◌≡◌, sym, ap, ◌∙◌}
use mathlib.Core.List.{List}
use Prim.Native.Nat.{ℕ, ◌≤◌}
use lib.Dec.{leb}
use lib.ListN.{length}
use borrow.Author.Tests.{le-leb}
use Rattle.lts.specs.Sizes.{most_states, table_length}
use Rattle.lts.specs.Reply.{Reply, accepted, refusal, left_in, answers}
use Rattle.lts.specs.Steps.{labels}
use Rattle.lts.proofs.Laws.Reading.{unless-to}
use Rattle.actl.specs.Sizes.{formula_length}
use Rattle.actl.specs.inner.Prepared.{prepared_formula}
use Rattle.actl.specs.FormulaReading.{with_formula}
use Rattle.lts.specs.Prepared.{with_table}
use Rattle.explanations.specs.Explanation.{and_then}
use Rattle.explanations.specs.inner.BothTexts.{Read, readings}
use Rattle.explanations.proofs.Beginnings.{of-readings}
use Rattle.replies.specs.Interface.{number_in, figure_in}
use Rattle.replies.specs.inner.Says.{Says}
use Rattle.replies.specs.declared.Answer.{Answer}
use Rattle.explaining.proofs.Answers.{said_of}
use Rattle.explaining.proofs.Into.{WasRead}
use Rattle.starts.specs.VerdictsAsked.{joint, verdicts_asked, verdicts_replied, verdicts_left}
use Rattle.verdict_lines.specs.inner.Asking.{verdicts_of, verdicts_over, Asked}

-- What is said of the joint answer is said of the verdicts.
joint_said : (r : Reply (List ℕ)) {a : Answer} → Says (λ n. n) (answers joint r) a → Says joint r a
joint_said (accepted vs) said = record { number_said = said.number_said; figure_said = said.figure_said }
joint_said (refusal n g) said = record { number_said = said.number_said; figure_said = said.figure_said }

module _ (table_text text starts : List ℕ) where
  abbrev asking : Read → Reply (List ℕ)
  asking x = verdicts_of starts x.table x.formula

  of-read : {r : Reply Read} → readings table_text text ≡ r → verdicts_over table_text text starts ≡ and_then r asking
  unfolding verdicts_over
  of-read e = of-readings (verdicts_of starts) table_text text ∙ ap (λ r. and_then r asking) e

  pub refused_texts : (buffer : List ℕ) (a : Answer) → readings table_text text ≡ refusal a.number a.figure → Asked table_text text starts buffer buffer a
  refused_texts buffer a d =
      let is = of-read d in
      record {
        says = record { number_said = sym (ap number_in is); figure_said = sym (ap (figure_in joint) is) };
        left = sym (ap (λ r. left_in (λ vs. vs) r buffer) is);
      }

  -- The prepared bytes that both readings leave, and a buffer that is long enough.
  module _ {t f : List ℕ} (w : WasRead table_text text t f) (buffer : List ℕ)
      (whole : table_length ≤ length t) (wide : formula_length ≤ length f) (room : most_states ≤ length buffer) where
    is-asked : verdicts_asked t f starts buffer ≡ verdicts_over table_text text starts
    unfolding verdicts_asked
    is-asked =
        unless-to (leb table_length (length t)) 14 table_length _ (le-leb table_length (length t) whole)
        ∙ unless-to (leb formula_length (length f)) 14 formula_length _ (le-leb formula_length (length f) wide)
        ∙ unless-to (leb most_states (length buffer)) 14 most_states _ (le-leb most_states (length buffer) room)
        ∙ ap (λ o. with_table o (λ u. with_formula (prepared_formula (labels u) f) (λ F. verdicts_of starts u F))) w.held.is_table
        ∙ ap (λ o. with_formula o (λ F. verdicts_of starts w.both.table F)) w.held.is_formula
        ∙ sym (of-read w.read)

    pub asked_texts : {buffer' : List ℕ} {a : Answer} → Says (λ n. n) (verdicts_replied t f starts buffer) a → buffer' ≡ verdicts_left t f starts buffer
        → Asked table_text text starts buffer buffer' a
    asked_texts said d = record {
      says = joint_said (verdicts_over table_text text starts) (said_of said (ap (answers joint) is-asked));
      left = d ∙ ap (λ r. left_in (λ vs. vs) r buffer) is-asked;
    }
