-- What `write_formula` promises, test by test: 14 for each buffer, then what the inputs' check refuses, then the line.
use mathlib.Core.Path.{◌≡◌, sym, ap, ◌∙◌, subst}
use mathlib.Core.List.{List}
use Prim.Native.Nat.{ℕ, ◌≤◌, ◌<◌}
use lib.ListN.{length}
use borrow.Author.Tests.{le-leb, lt-leb}
use Rattle.std.proofs.Common.{Result, Err}
use Rattle.lts.specs.Sizes.{table_length}
use Rattle.lts.specs.Reply.{refusal, left_in, answers}
use Rattle.actl.specs.Sizes.{longest_text, formula_length}
use Rattle.formula_check.specs.Inputs.{unprepared}
use Rattle.formula_check.specs.declared.inputs.Unprepared.{Unprepared}
use Rattle.formula_check.specs.Inputs.{inputs_reply}
use Rattle.formula_check.proofs.Laws.Inputs.{Both, checked, goes_on, inputs_refused}
use Rattle.written_back.specs.FormulaWriting.{formula_writing, formula_written, text_left}
use Rattle.written_back.specs.ReadBack.{Restored}
use Rattle.written_back.proofs.Written.{text_in, with_room, restored}
use Rattle.write_formula.specs.Replies.{write_reply}
use Rattle.write_formula.specs.declared.WriteRefusal.{WriteRefusal}
use Rattle.write_formula.specs.declared.WriteRefusal.TheVariants as refusals
use Rattle.write_formula.specs.inner.Line.{LineWritten}

module _ (table formula text : List ℕ) where
  abbrev Promised : List ℕ → Result ℕ WriteRefusal → Type 0
  Promised text' r =
      (write_reply r ≡ formula_written table formula text) × ((text' ≡ text_left table formula text) × Restored table formula (write_reply r) text')

  promised : (text' : List ℕ) (r : Result ℕ WriteRefusal) → write_reply r ≡ formula_written table formula text → text' ≡ text_left table formula text → Promised text' r
  promised text' r d e = (
    d,
    (
      e,
      subst (λ q. Restored table formula q text') (sym d) (subst (λ l. Restored table formula (formula_written table formula text) l) (sym e) (restored table formula text)),
    ),
  )

  pub refused : (why : Unprepared) → unprepared why ≡ formula_writing table formula text → Promised text (Err (refusals.Unprepared why))
  refused why d = promised text (Err (refusals.Unprepared why)) (ap (answers length) d) (ap (λ r. left_in (λ s. s) r text) d)

  pub short-table : length table < table_length → refusal 14 table_length ≡ formula_writing table formula text
  unfolding formula_writing
  short-table h = sym (rw (lt-leb table_length (length table) h))

  module _ (long : table_length ≤ length table) where
    pub short-formula : length formula < formula_length → refusal 14 formula_length ≡ formula_writing table formula text
    unfolding formula_writing
    short-formula h = sym (rw (le-leb table_length (length table) long, lt-leb formula_length (length formula) h))

    pub short-text : formula_length ≤ length formula → length text < longest_text → refusal 14 longest_text ≡ formula_writing table formula text
    unfolding formula_writing
    short-text enough h = sym (rw (le-leb table_length (length table) long, le-leb formula_length (length formula) enough, lt-leb longest_text (length text) h))

  module _ (room : longest_text ≤ length text) where
    pub foreign : {i : Result (Unit {0}) Unprepared} {why : Unprepared} → inputs_reply i ≡ checked table formula → i ≡ Err why → unprepared why ≡ formula_writing table formula text
    foreign outcome e = inputs_refused table formula outcome text_in e ∙ sym (with_room table formula text room)

    pub written : (text' : List ℕ) (r : Result ℕ WriteRefusal) → Both table formula → LineWritten table formula text text' r → Promised text' r
    written text' r b l =
        let F = b.formula_in in
        let is = sym (with_room table formula text room ∙ goes_on table formula text_in b F b.prepared) in
        promised text' r (l.replies F b.prepared ∙ ap (answers length) is) (l.leaves F b.prepared ∙ ap (λ q. left_in (λ s. s) q text) is)
