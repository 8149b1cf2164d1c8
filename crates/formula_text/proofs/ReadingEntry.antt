-- The entry: its tests in their order, and what the reading of a text gives.
use mathlib.Core.Path.{◌≡◌, refl, sym, ap, ◌∙◌}
use mathlib.Core.Bool.{true, false}
use mathlib.Core.List.{List, []}
use mathlib.Core.Option.{Option, none, some}
use Prim.Native.Nat.{ℕ, ◌≤◌, ◌<◌}
use native.Mathlib.Omega.{arith}
use borrow.Author.Tests.{le-leb, lt-leb}
use lib.Dec.{leb}
use lib.ListN.{length, replicate}
use Rattle.std.proofs.Common.{Result, Err}
use Rattle.actl.specs.Sizes.{formula_length, longest_text}
use Rattle.lts.specs.Sizes.{table_length}
use Rattle.lts.specs.Reply.{Reply, refusal, unless, left_in, answers}
use Rattle.lts.specs.Steps.{Table}
use Rattle.lts.specs.inner.Prepared.{prepared_table}
use Rattle.lts.specs.inner.Answers.{is_some}
use Rattle.lts.proofs.Laws.Prepared.{prepared_in}
use Rattle.actl.specs.Formulas.{Formula}
use Rattle.actl.specs.inner.Reader.{read}
use Rattle.actl.specs.inner.Mentions.{names_f}
use Rattle.actl.specs.inner.Mentions.{first_unknown}
use Rattle.actl.specs.inner.Reading.{on_result, read_formula}
use Rattle.actl.specs.Prepared.{formula_bytes}
use Rattle.formula_text.specs.Replies.{formula_reply}
use Rattle.actl.specs.FormulaReading.{formula_reading}
use Rattle.lts.specs.Prepared.{with_table}
use Rattle.actl.specs.inner.Readers.{names_in, WholeRead, RefusedAt}
use Rattle.actl.specs.inner.Meaning.{formula_f}
use Rattle.formula_text.specs.inner.FormulaAnswers.{FormulaAnswered, FormulaAnsweredWith}
use Rattle.formula_text.specs.declared.FormulaRefusal.{FormulaRefusal}
use Rattle.formula_text.specs.declared.FormulaRefusal.TheVariants.{TooLong, NotGrammatical, TableForeign, BufferShort}
use Rattle.lts.proofs.Laws.Reading.{unless-to}
use Rattle.lts.proofs.Laws.Refusals.{unless-false}

-- Two readings that are equal are answered alike.
answered-as : {a b : Reply Formula} {e x : List ℕ} {r : Result (Unit {0}) FormulaRefusal} → a ≡ b → FormulaAnswered b e r x → FormulaAnswered a e r x
answered-as {e = e} p h = record {
  replies = h.replies ∙ sym (ap (answers (λ F. tt)) p);
  leaves = h.leaves ∙ sym (ap (λ v. left_in formula_bytes v e) p);
}

-- A refusal leaves the buffer as it was.
refuses : {a : Reply Formula} {e : List ℕ} (why : FormulaRefusal) (number figure : ℕ)
    → a ≡ refusal number figure → formula_reply (Err why) ≡ refusal number figure → FormulaAnswered a e (Err why) e
refuses why number figure p q = answered-as p (record { replies = q; leaves = refl })

absent : (o : Option Table) → is_some o ≡ false → o ≡ none
absent none h = refl
absent (some t) h = let z : ◌≡◌ {A = ℕ} 0 1 = cc in absurd (omega arith)

-- What is tested of the bytes lent.
module _ (b s e : List ℕ) where
  pub short-table : length b < table_length → FormulaAnswered (formula_reading b s e) e (Err (BufferShort table_length)) e
  unfolding formula_reading
  short-table h =
      refuses (BufferShort table_length) 14 table_length (unless-false (leb table_length (length b)) 14 table_length _ (lt-leb table_length (length b) h)) refl

  module _ (long : table_length ≤ length b) where
    enough : {A : Type 0} (a : Reply A) → unless (leb table_length (length b)) 14 table_length a ≡ a
    enough a = unless-to (leb table_length (length b)) 14 table_length a (le-leb table_length (length b) long)

    pub short-formula : length e < formula_length → FormulaAnswered (formula_reading b s e) e (Err (BufferShort formula_length)) e
    unfolding formula_reading
    short-formula h = refuses (BufferShort formula_length) 14 formula_length
        (enough _ ∙ unless-false (leb formula_length (length e)) 14 formula_length _ (lt-leb formula_length (length e) h)) refl

    module _ (room : formula_length ≤ length e) where
      opened : formula_reading b s e ≡ with_table (prepared_table b) (λ t. read_formula t.names s)
      unfolding formula_reading
      opened = enough _ ∙ unless-to (leb formula_length (length e)) 14 formula_length _ (le-leb formula_length (length e) room)

      pub foreign_table : is_some (prepared_table b) ≡ false → FormulaAnswered (formula_reading b s e) e (Err TableForeign) e
      foreign_table h =
          refuses TableForeign 10 0 (opened ∙ ap (λ o. with_table o (λ t. read_formula t.names s)) (absent (prepared_table b) h)) refl

      pub on-prepared : is_some (prepared_table b) ≡ true → {r : Result (Unit {0}) FormulaRefusal} {x : List ℕ}
          → FormulaAnswered (read_formula (names_in b) s) e r x → FormulaAnswered (formula_reading b s e) e r x
      on-prepared h = answered-as (opened ∙ ap (λ o. with_table o (λ t. read_formula t.names s)) (prepared_in b h))

-- The text, over label names.
module _ (N : List (List ℕ)) (s e : List ℕ) where
  pub long-text : 512 < length s → FormulaAnswered (read_formula N s) e (Err (TooLong (length s))) e
  unfolding read_formula
  long-text h = refuses (TooLong (length s)) 5 (length s)
      (unless-false (leb (length s) 512) 5 (length s) (on_result N s (read s)) (lt-leb (length s) 512 h)) refl

  module _ (short : length s ≤ longest_text) where
    result : read_formula N s ≡ on_result N s (read s)
    unfolding read_formula
    result = unless-to (leb (length s) 512) 5 (length s) (on_result N s (read s)) (le-leb (length s) 512 short)

    pub refused-text : (n : ℕ) → RefusedAt s n → FormulaAnswered (read_formula N s) e (Err (NotGrammatical n)) e
    refused-text n h = refuses (NotGrammatical n) 6 n (result ∙ (ap (on_result N s) h.reads ∙ ap (refusal 6) (sym h.figure))) refl

    pub whole-text : {c x : List ℕ} {n lost : ℕ} {r : Result (Unit {0}) FormulaRefusal}
        → WholeRead N s (replicate formula_length 0) c n lost → FormulaAnsweredWith c n lost e r x → FormulaAnswered (read_formula N s) e r x
    whole-text h f =
        let o = first_unknown N h.value (names_f h.value []) in
        answered-as (result ∙ ap (on_result N s) h.reads)
        (f (formula_f N h.value) o (record { count = h.count; made = h.made; lacks = h.lacks }))
