-- What `table_text` promises, test by test: 14 for each buffer, then 10, then the text.
use mathlib.Core.Path.{◌≡◌, refl, sym, ap, ◌∙◌, subst}
use mathlib.Core.Bool.{true, false, true≢false}
use mathlib.Core.List.{List}
use mathlib.Core.Option.{Option, none, some}
use Prim.Native.Nat.{ℕ, ◌≤◌, ◌<◌}
use native.Mathlib.Nat.{zero-add}
use lib.ListN.{length}
use borrow.Author.Tests.{le-leb, lt-leb}
use Rattle.lts.specs.Sizes.{table_length, longest_table_text}
use Rattle.lts.specs.Reply.{accepted, refusal, left_in, answers}
use Rattle.lts.specs.TableText.{table_text}
use Rattle.lts.specs.Prepared.{with_table}
use Rattle.lts.specs.inner.Answers.{is_some}
use Rattle.lts.specs.inner.Prepared.{table_in, prepared_table}
use Rattle.lts.proofs.Laws.Pasted.{pasted-start}
use Rattle.lts.proofs.Laws.Prepared.{prepared_in}
use Rattle.write_table.specs.TableWriting.{table_writing, table_written, table_text_left, ReadsBack}
use Rattle.write_table.specs.Replies.{text_reply}
use Rattle.std.specs.Prelude.{Result, Ok, Err}
use Rattle.write_table.specs.declared.TextRefusal.{TextRefusal}
use Rattle.write_table.specs.declared.TextRefusal.TheVariants.{TableForeign, BufferShort}
use Rattle.written_lines.specs.inner.Lines.{Stands}
use Rattle.write_table.proofs.ReadBack.{reads_back}

none_of : {A : Type 0} (o : Option A) → is_some o ≡ false → o ≡ none
none_of none e = refl
none_of (some a) e = absurd (true≢false e)

module _ (table text : List ℕ) where
  abbrev Promised : List ℕ → Result ℕ TextRefusal → Type 0
  Promised text' r = (text_reply r ≡ table_written table text) × ((text' ≡ table_text_left table text) × ReadsBack table (text_reply r) text')

  promised : (text' : List ℕ) (r : Result ℕ TextRefusal) → text_reply r ≡ table_written table text → text' ≡ table_text_left table text → Promised text' r
  promised text' r d e = (
    d,
    (
      e,
      subst (λ q. ReadsBack table q text') (sym d) (subst (λ l. ReadsBack table (table_written table text) l) (sym e) (reads_back table text)),
    ),
  )

  refused : (r : Result ℕ TextRefusal) (number figure : ℕ) → text_reply r ≡ refusal number figure → table_writing table text ≡ refusal number figure → Promised text r
  refused r number figure d e = promised text r (d ∙ sym (ap (answers length) e)) (sym (ap (λ q. left_in (λ s. s) q text) e))

  pub short-table : length table < table_length → Promised text (Err (BufferShort table_length))
  unfolding table_writing
  short-table h = refused (Err (BufferShort table_length)) 14 table_length refl (rw (lt-leb table_length (length table) h))

  module _ (long : table_length ≤ length table) where
    pub short-text : length text < longest_table_text → Promised text (Err (BufferShort longest_table_text))
    unfolding table_writing
    short-text h =
        refused (Err (BufferShort longest_table_text)) 14 longest_table_text refl
        (rw (le-leb table_length (length table) long, lt-leb longest_table_text (length text) h))

    module _ (room : longest_table_text ≤ length text) where
      behind : table_writing table text ≡ with_table (prepared_table table) (λ t. accepted (table_text t))
      unfolding table_writing
      behind = rw (le-leb table_length (length table) long, le-leb longest_table_text (length text) room)

      pub foreign : is_some (prepared_table table) ≡ false → Promised text (Err TableForeign)
      foreign e =
          refused (Err TableForeign) 10 0 refl
          (behind ∙ ap (λ o. with_table o (λ t. accepted (table_text t))) (none_of (prepared_table table) e))

      pub written : is_some (prepared_table table) ≡ true → (text' : List ℕ) (n : ℕ) → Stands (table_text (table_in table)) 0 text text' n → Promised text' (Ok n)
      written e text' n s =
          let is = sym (behind ∙ ap (λ o. with_table o (λ t. accepted (table_text t))) (prepared_in table e)) in
          promised text' (Ok n) (ap accepted (s.ends ∙ zero-add _) ∙ ap (answers length) is)
          (s.is ∙ pasted-start text (table_text (table_in table)) ∙ ap (λ q. left_in (λ l. l) q text) is)
