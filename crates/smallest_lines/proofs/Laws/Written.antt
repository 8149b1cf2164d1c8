-- The text that is made of what was asked: a refusal's line, or that of the automaton in the buffer.
use mathlib.Core.Path.{◌≡◌, refl, sym, ap, ◌∙◌, subst}
use mathlib.Core.List.{List}
use Prim.Native.Nat.{ℕ}
use native.Mathlib.Omega.{arith}
use lib.ListN.{length, take, drop}
use lib.Seq.{take-append_seam}
use Rattle.lts.specs.Reply.{Reply, accepted, refusal, overwritten, left_in, answers}
use Rattle.lts.proofs.Laws.Refusals.{Between, numbered_of, answers-refused}
use Rattle.explanations.specs.inner.Printed.{TextWritten}
use Rattle.replies.specs.Interface.{number_in}
use Rattle.replies.specs.declared.Answer.{Answer}
use Rattle.explaining.proofs.Answers.{refused_so_lem}
use Rattle.files.specs.inner.Writing.{refused_line}
use Rattle.deterministic.specs.Automata.{Automaton}
use Rattle.deterministic.specs.Bytes.{automaton_bytes}
use Rattle.deterministic.specs.SmallestAsked.{Beside, counts_beside, smallest_bytes}
use Rattle.smallest_text.specs.Text.{automaton_text}
use Rattle.smallest_text.specs.inner.Held.{AutomatonIn}
use Rattle.smallest_lines.specs.SmallestText.{lent_smallest}
use Rattle.smallest_lines.specs.inner.Asking.{Asked}
use Rattle.smallest_lines.specs.inner.FileText.{counted_text}
use Rattle.smallest_lines.proofs.Laws.Answered.{smallest-of}
use Rattle.smallest_lines.proofs.Laws.Numbers.{lent_numbers}

module _ (table_text text buffer buffer' : List ℕ) {a : Answer} (asked : Asked table_text text buffer buffer' a) where
  abbrev B : Reply Beside
  B = lent_smallest table_text text

  -- What was accepted: an automaton, and its bytes.
  pub record Held : Type 0 where
    pub beside : Beside
    pub is : B ≡ accepted beside
    pub held : AutomatonIn beside.smallest buffer'

  pub was_held : a.number ≡ 0 → Held
  was_held z = by B refl
    where
      by : (x : Reply Beside) → B ≡ x → Held
      by (refusal n g) e =
          let least = (numbered_of (Between 1 20) B n g (lent_numbers table_text text) e).0 in
          absurd (omega (arith, least, asked.says.number_said ∙ ap (λ r. number_in (answers counts_beside r)) e))
      by (accepted b) e =
          let s = smallest-of table_text text e in
          let bytes = automaton_bytes b.smallest in
          let left : buffer' ≡ overwritten bytes buffer = asked.left ∙ ap (λ r. left_in smallest_bytes r buffer) e in
          record {
            beside = b;
            is = e;
            held = record {
              held = ap (take (length bytes)) left ∙ take-append_seam bytes (drop (length bytes) buffer);
              few_states = s.few_states;
              few_edges = s.few_edges;
            };
          }

  module _ (counted : ℕ) {before out : List ℕ} {end : ℕ} where
    -- The text of an equal reply.
    same_text : {r : Reply Beside} → B ≡ r → TextWritten (counted_text counted r) before out end → TextWritten (counted_text counted B) before out end
    same_text e w = subst (λ (x : Reply Beside). TextWritten (counted_text counted x) before out end) (sym e) w

    pub refused-text : (a.number ≡ 0 → ⊥) → TextWritten (refused_line counted a.number a.figure) before out end → TextWritten (counted_text counted B) before out end
    refused-text h = same_text ((answers-refused counts_beside B a.number a.figure).0 (refused_so_lem (answers counts_beside B) asked.says h))

    pub held-text : a.number ≡ 0 → ((d : Automaton) → AutomatonIn d buffer' → TextWritten (automaton_text d) before out end) → TextWritten (counted_text counted B) before out end
    held-text z w = let h = was_held z in same_text h.is (w h.beside.smallest h.held)
