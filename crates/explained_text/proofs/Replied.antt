-- The text of a reply of `explain` is what is printed of the explanation, with the length of the formula in refusal 5.
use mathlib.Core.Path.{◌≡◌, refl, sym, ◌∙◌, subst}
use mathlib.Core.List.{List, []}
use Prim.Native.Nat.{ℕ, ◌≤◌}
use Rattle.std.proofs.Common.{Result}
use native.Mathlib.Omega.{arith}
use lib.ListN.{length}
use Rattle.actl.specs.Sizes.{formula_length}
use Rattle.explanations.specs.inner.Sizes.{rows_length, edges_length}
use Rattle.lts.specs.Sizes.{table_length}
use Rattle.lts.specs.Reply.{Reply, accepted, refusal}
use Rattle.lts.proofs.Laws.Texts.{text-of-read}
use Rattle.actl.proofs.Laws.Accepted.{reading-leaves-form}
use Rattle.automaton.specs.Listing.{Listing}
use Rattle.automaton.proofs.Accepted.{formed-has-class}
use Rattle.automaton.proofs.Bytes.{SmallEdges}
use Rattle.automaton.proofs.WordsAccepted.{small-edges}
use Rattle.explanations.specs.Explanation.{Explanation, explaining, explanation, explain_replied, rows_explained, edges_explained}
use Rattle.explaining.specs.Replies.{explain_reply}
use Rattle.explained_text.specs.inner.Replied.{Replied}
use Rattle.files.specs.inner.Writing.{reply_text, Few}
use Rattle.explanations.specs.Printed.{printed}
use Rattle.explanations.specs.inner.Printed.{with_length}
use Rattle.explaining.specs.declared.explained.Explained.{Explained}
use Rattle.replies.specs.declared.Answer.{Answer}
use Rattle.explanations.proofs.Demands.{Accepted, explanation-accepted}
use Rattle.explaining.specs.Outcome.{Outcome}
use Rattle.explaining.proofs.Into.{same_outcome}
use Rattle.explaining.proofs.Promised.{long-enough}
use Rattle.explanations.proofs.Lines.{listing-printed}

module _ (table_text text rows edges : List ℕ) where
  abbrev E : Reply Explanation
  E = explanation table_text text rows edges

  pub replied : {table formula : List ℕ} → table_length ≤ length table → formula_length ≤ length formula
      → {r : Result Explained Answer} {table' formula' rows' edges' : List ℕ}
      → Outcome (explaining table_text text table formula rows edges) r table table' formula formula' rows rows' edges edges'
      → Replied table_text text r rows rows' edges edges'
  replied {table} {formula} long wide s =
      let outcome = same_outcome (sym (long-enough table_text text table formula rows edges long wide)) s in
      record { reply = outcome.reply; rows_left = outcome.rows_left; edges_left_lem = outcome.edges_left_lem }

  stands : (e : Explanation) → E ≡ accepted e → Accepted table_text text rows edges e
  stands e d = explanation-accepted table_text text rows edges e d

  small : (e : Explanation) → E ≡ accepted e → SmallEdges e.list
  small e d =
      let a = stands e d in
      let form = reading-leaves-form e.table.names text [] a.read-formula in
      subst (λ (L : Listing). SmallEdges L) (sym a.is-listing)
      (small-edges e.table e.formula (text-of-read table_text e.table a.read_table_lem).1 (formed-has-class form) form.few)

  module _ {r : Result Explained Answer} {rows' edges' : List ℕ} (told : Replied table_text text r rows rows' edges edges') where
    pub few-counts : length rows ≡ rows_length → length edges ≡ edges_length → Few (explain_reply r)
    few-counts i j = subst Few (sym told.reply) (by E refl)
      where
        by : (x : Reply Explanation) → E ≡ x → Few (explain_replied x)
        by (refusal n g) d = tt
        by (accepted x) d = (omega (arith, (stands x d).rows_fit), omega (arith, (stands x d).edges_fit))

    pub reply-text : (n : ℕ) → reply_text (explain_reply r) n rows' edges' ≡ printed (with_length n E)
    unfolding printed
    reply-text n = (λ i. reply_text (told.reply i) n (told.rows_left i) (told.edges_left_lem i)) ∙ by E refl
      where
        by : (x : Reply Explanation) → E ≡ x → reply_text (explain_replied x) n (rows_explained x rows) (edges_explained x edges) ≡ printed (with_length n x)
        by (refusal k g) d = refl
        by (accepted x) d = listing-printed x rows edges (small x d)
