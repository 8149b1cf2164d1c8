-- Two tables combined and written: what is said of them, and the text that is left.
use mathlib.Core.Path.{◌≡◌, refl, sym, ap, ◌∙◌, subst}
use mathlib.Core.List.{List}
use mathlib.Core.Option.{some}
use Prim.Native.Nat.{ℕ, ◌≤◌}
use native.Mathlib.Omega.{arith}
use lib.ListN.{length}
use borrow.Author.Tests.{le-leb}
use Rattle.lts.specs.Prepared.{table_bytes}
use Rattle.lts.specs.Reply.{Reply, accepted, refusal, overwritten, left_in, answers}
use Rattle.lts.specs.Sizes.{table_length, longest_table_text}
use Rattle.lts.specs.Steps.{Table}
use Rattle.lts.specs.TableText.{table_text}
use Rattle.lts.specs.inner.Prepared.{prepared_table}
use Rattle.lts.proofs.Laws.Prepared.{prepared-of, prepared-to, prepared-length}
use Rattle.lts.proofs.Laws.Refusals.{numbered_of}
use Rattle.explanations.specs.inner.Printed.{TextWritten}
use Rattle.explaining.proofs.Answers.{refused_so_lem}
use Rattle.replies.specs.Interface.{number_in, figure_in}
use Rattle.replies.specs.declared.Answer.{Answer}
use Rattle.replies.specs.inner.Says.{Says}
use Rattle.side_by_side.specs.Combining.{combining, combine_asked, combine_replied, combined_left}
use Rattle.side_by_side.proofs.Accepted.{asked-combining, accepted_range}
use Rattle.side_by_side.proofs.Answered.{left-begins, combining-numbers}
use Rattle.write_table.specs.TableWriting.{table_writing, table_written, table_text_left}
use Rattle.combined_text.specs.inner.Reading.{BothHeld}

-- What is said of a part of the values is said of the reply.
says-through : {A : Type 0} (r : Reply A) {a : Answer} → Says (λ (u : Unit {0}). 0) (answers (λ (x : A). tt) r) a → Says (λ (x : A). 0) r a
says-through (accepted x) s = record { number_said = s.number_said; figure_said = s.figure_said }
says-through (refusal n g) s = record { number_said = s.number_said; figure_said = s.figure_said }

-- A combination that was accepted, and the bytes that hold it.
pub record CombinedHeld (f s : Table) (left : List ℕ) : Type 0 where
  pub t : Table
  pub is : combining f s ≡ accepted t
  pub held : prepared_table left ≡ some t

module _ (one two : List ℕ) (h : BothHeld one two) (buffer : List ℕ) (long : table_length ≤ length buffer) (a : Answer) where
  abbrev f : Table
  f = h.f

  abbrev s : Table
  s = h.s

  asked : combine_asked one two buffer ≡ combining f s
  asked = asked-combining one two buffer f s h.first_held h.second_held long

  module _ (said : Says (λ (u : Unit {0}). 0) (combine_replied one two buffer) a) where
    says : Says (λ (t : Table). 0) (combining f s) a
    says = subst (λ r. Says (λ (t : Table). 0) r a) asked (says-through (combine_asked one two buffer) said)

    pub combining-refused : (a.number ≡ 0 → ⊥) → combining f s ≡ refusal a.number a.figure
    combining-refused z = refused_so_lem (combining f s) says z

    pub combining-held : a.number ≡ 0 → (left : List ℕ) → left ≡ combined_left one two buffer → CombinedHeld f s left
    combining-held z left e = case (combining f s) refl
      where
        never : (n g : ℕ) → combining f s ≡ refusal n g → n ≡ 0 → ⊥
        never n g d o = numbered_of (λ n. n ≡ 0 → ⊥) (combining f s) n g (combining-numbers (λ n. n ≡ 0 → ⊥) (λ z. omega arith) (λ z. omega arith) (λ z. omega arith) f s) d o

        case : (r : Reply Table) → combining f s ≡ r → CombinedHeld f s left
        case (refusal n g) d = absurd (never n g d (sym (says.number_said ∙ ap number_in d) ∙ z))
        case (accepted t) d =
            let range = accepted_range f s t (prepared-of one f h.first_held).0 (prepared-of two s h.second_held).0 d in
            let bytes : left ≡ overwritten (table_bytes t) buffer = e ∙ ap (λ (r : Reply Table). left_in table_bytes r buffer) (asked ∙ d) in
            record { t = t; is = d; held = ap prepared_table bytes ∙ prepared-to (overwritten (table_bytes t) buffer) t range (left-begins t range buffer) }

-- The text of a prepared table.
module _ (table : List ℕ) (t : Table) (held : prepared_table table ≡ some t) (buffer : List ℕ) (long : longest_table_text ≤ length buffer) where
  pub text_writing : table_writing table buffer ≡ accepted (table_text t)
  unfolding table_writing
  text_writing = rw (le-leb table_length (length table) (prepared-length table t held), le-leb longest_table_text (length buffer) long, held)

  pub text-left : (a : Answer) → Says (λ (n : ℕ). n) (table_written table buffer) a → (left : List ℕ) → left ≡ table_text_left table buffer → TextWritten (table_text t) buffer left a.figure
  text-left a said left e = record {
    is = e ∙ ap (λ (r : Reply (List ℕ)). left_in (λ s. s) r buffer) text_writing;
    ends = said.figure_said ∙ ap (λ (r : Reply (List ℕ)). figure_in (λ n. n) (answers length r)) text_writing;
  }
