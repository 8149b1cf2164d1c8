-- What is written back of two texts: both readings, then the text of the formula that was read.
use mathlib.Core.Path.{◌≡◌, refl, sym, ap, ◌∙◌}
use mathlib.Core.List.{List}
use Prim.Native.Nat.{ℕ, ◌≤◌}
use native.Mathlib.Omega.{arith}
use lib.Dec.{leb}
use lib.ListN.{length}
use borrow.Author.Tests.{leb-true, le-leb}
use Rattle.lts.specs.Sizes.{table_length}
use Rattle.lts.specs.Reply.{Reply, accepted, refusal, left_in, answers}
use Rattle.lts.specs.Steps.{labels}
use Rattle.lts.proofs.Laws.Reading.{unless-to, unless-of}
use Rattle.lts.proofs.Laws.Refusals.{Numbered, Between, numbered-unless}
use Rattle.actl.specs.Sizes.{formula_length, longest_text}
use Rattle.actl.specs.inner.Prepared.{prepared_formula}
use Rattle.actl.specs.FormulaReading.{with_formula}
use Rattle.lts.specs.Prepared.{with_table}
use Rattle.actl.proofs.Laws.Replies.{refusal-is-not-accepted}
use Rattle.explanations.specs.Explanation.{and_then}
use Rattle.explanations.specs.inner.BothTexts.{Read, readings}
use Rattle.explanations.proofs.Beginnings.{of-readings, then-numbers}
use Rattle.replies.specs.Interface.{number_in, figure_in}
use Rattle.replies.specs.inner.Says.{Says}
use Rattle.replies.specs.declared.Answer.{Answer}
use Rattle.explaining.proofs.Answers.{said_of}
use Rattle.explaining.proofs.Into.{WasRead}
use Rattle.written_back.specs.FormulaText.{formula_text}
use Rattle.written_back.proofs.Written.{text_in}
use Rattle.written_back.specs.FormulaWriting.{unless_long, formula_writing, formula_written, text_left}
use Rattle.formula_line.specs.LineText.{written_back}
use Rattle.formula_line.specs.inner.Back.{WroteBack}

-- What is said of a text's length is said of the text.
length_said : (r : Reply (List ℕ)) {a : Answer} → Says (λ n. n) (answers length r) a → Says length r a
length_said (accepted s) said = record { number_said = said.number_said; figure_said = said.figure_said }
length_said (refusal n g) said = record { number_said = said.number_said; figure_said = said.figure_said }

abbrev text_of : Read → Reply (List ℕ)
text_of x = text_in x.table x.formula

module _ (table_text text : List ℕ) where
  of-read : {r : Reply Read} → readings table_text text ≡ r → written_back table_text text ≡ and_then r text_of
  unfolding written_back
  of-read e = of-readings text_in table_text text ∙ ap (λ r. and_then r text_of) e

  -- No refusal has the number 0.
  pub back_numbers : Numbered (Between 1 15) (written_back table_text text)
  unfolding written_back
  back_numbers = then-numbers 15 (omega arith) text_in (λ t F.
      let s = formula_text t.names F in
      numbered-unless (Between 1 15) (leb (length s) longest_text) 15 (length s) (accepted s) (omega arith, omega arith) tt) table_text text

  -- A text that is written has at most 512 bytes.
  pub written-short : (s : List ℕ) → written_back table_text text ≡ accepted s → length s ≤ longest_text
  written-short s e = by (readings table_text text) (sym (of-read refl) ∙ e)
    where
      by : (r : Reply Read) → and_then r text_of ≡ accepted s → length s ≤ longest_text
      by (refusal n g) d = absurd (refusal-is-not-accepted d)
      by (accepted x) d =
          let l = formula_text x.table.names x.formula in
          let (short, is) = unless-of (leb (length l) longest_text) 15 (length l) (accepted l) s d in
          let same : l ≡ s = cc in
          omega (arith, leb-true (length l) longest_text short, ap length same)

  pub refused_back : (buffer : List ℕ) (a : Answer) → readings table_text text ≡ refusal a.number a.figure → WroteBack table_text text buffer buffer a
  refused_back buffer a d =
      let is = of-read d in
      record {
        says = record { number_said = sym (ap number_in is); figure_said = sym (ap (figure_in length) is) };
        left = sym (ap (λ r. left_in (λ s. s) r buffer) is);
      }

  -- The prepared bytes that both readings leave, and a buffer that is long enough.
  module _ {t f : List ℕ} (w : WasRead table_text text t f) (buffer : List ℕ)
      (whole : table_length ≤ length t) (wide : formula_length ≤ length f) (room : longest_text ≤ length buffer) where
    is_writing : formula_writing t f buffer ≡ written_back table_text text
    unfolding formula_writing
    is_writing =
        unless-to (leb table_length (length t)) 14 table_length _ (le-leb table_length (length t) whole)
        ∙ unless-to (leb formula_length (length f)) 14 formula_length _ (le-leb formula_length (length f) wide)
        ∙ unless-to (leb longest_text (length buffer)) 14 longest_text _ (le-leb longest_text (length buffer) room)
        ∙ ap (λ o. with_table o (λ u. with_formula (prepared_formula (labels u) f) (λ F. unless_long (formula_text u.names F))))
        w.held.is_table
        ∙ ap (λ o. with_formula o (λ F. unless_long (formula_text w.both.table.names F))) w.held.is_formula
        ∙ sym (of-read w.read)

    pub written_back_lem : {buffer' : List ℕ} {a : Answer} → Says (λ n. n) (formula_written t f buffer) a → buffer' ≡ text_left t f buffer
        → WroteBack table_text text buffer buffer' a
    written_back_lem said d =
        record {
          says = length_said (written_back table_text text) (said_of said (ap (answers length) is_writing));
          left = d ∙ ap (λ r. left_in (λ s. s) r buffer) is_writing;
        }
