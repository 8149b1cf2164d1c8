-- The automaton of two texts: both readings, then what is asked of the table and the formula that were read.
use mathlib.Core.Path.{◌≡◌, sym, ap, ◌∙◌}
use mathlib.Core.List.{List}
use Prim.Native.Nat.{ℕ, ◌≤◌}
use lib.ListN.{length}
use Rattle.lts.specs.Sizes.{table_length}
use Rattle.lts.specs.Reply.{Reply, refusal, left_in, answers}
use Rattle.actl.specs.Sizes.{formula_length}
use Rattle.actl.proofs.Laws.Replies.{on-prepared_goes}
use Rattle.explanations.specs.Explanation.{and_then}
use Rattle.explanations.specs.inner.BothTexts.{Read, readings}
use Rattle.explanations.proofs.Beginnings.{of-readings}
use Rattle.replies.specs.Interface.{number_in, figure_in}
use Rattle.replies.specs.declared.Answer.{Answer}
use Rattle.explaining.proofs.Answers.{said_of}
use Rattle.explaining.proofs.Into.{WasRead}
use Rattle.deterministic.specs.Sizes.{smallest_length, work_length}
use Rattle.deterministic.specs.SmallestAsked.{Beside, beside_in, smallest_asked, counts_beside, smallest_bytes}
use Rattle.deterministic.proofs.Answered.{with_room}
use Rattle.smallest_lines.specs.SmallestText.{lent_smallest}
use Rattle.smallest_lines.specs.inner.Asking.{lent_rows, lent_edges, rows_in, Found, Asked}

module _ (table_text text : List ℕ) where
  abbrev asking : Read → Reply Beside
  asking x = beside_in lent_rows lent_edges x.table x.formula

  of-read : {r : Reply Read} → readings table_text text ≡ r → lent_smallest table_text text ≡ and_then r asking
  unfolding lent_smallest
  of-read e = of-readings (beside_in lent_rows lent_edges) table_text text ∙ ap (λ r. and_then r asking) e

  pub refused_texts : (buffer : List ℕ) (a : Answer) → readings table_text text ≡ refusal a.number a.figure → Asked table_text text buffer buffer a
  refused_texts buffer a d =
      let is = of-read d in
      record {
        says = record { number_said = sym (ap (λ r. number_in (answers counts_beside r)) is); figure_said = sym (ap (λ r. figure_in rows_in (answers counts_beside r)) is) };
        left = sym (ap (λ r. left_in smallest_bytes r buffer) is);
      }

  -- The prepared bytes that both readings leave, and a buffer that is long enough.
  module _ {t f : List ℕ} (w : WasRead table_text text t f) (buffer : List ℕ)
      (whole : table_length ≤ length t) (wide : formula_length ≤ length f) (room : smallest_length ≤ length buffer) where
    is-asked : (work : List ℕ) → work_length ≤ length work → smallest_asked t f lent_rows lent_edges buffer work ≡ lent_smallest table_text text
    is-asked work enough =
        with_room t f lent_rows lent_edges buffer work room enough
        ∙ on-prepared_goes t f w.held.is_table w.held.is_formula (beside_in lent_rows lent_edges) whole wide
        ∙ sym (of-read w.read)

    pub asked_texts : {buffer' : List ℕ} {a : Answer} → Found t f buffer buffer' a → Asked table_text text buffer buffer' a
    asked_texts found =
        let is = is-asked found.work found.enough in
        record {
          says = said_of found.says (ap (answers counts_beside) is);
          left = found.left ∙ ap (λ r. left_in smallest_bytes r buffer) is;
        }
