-- Of the reply of writing a formula: what an accepted call left reads back, and which refusals there are, 10 exactly for foreign bytes.
use mathlib.Core.Path.{◌≡◌, refl, sym, ap, ◌∙◌, subst}
use mathlib.Core.Logic.{◌⊎◌, inl, inr}
use mathlib.Core.List.{List}
use mathlib.Core.Option.{Option, none, some}
use Prim.Native.Nat.{ℕ, ◌≤◌}
use native.Mathlib.Omega.{arith}
use lib.Dec.{leb}
use lib.ListN.{length, take, drop}
use lib.Seq.{take_at}
use borrow.Author.Tests.{leb-true, le-leb}
use Rattle.lts.specs.Sizes.{table_length}
use Rattle.lts.specs.Reply.{Reply, accepted, refusal, unless, left_in, answers}
use Rattle.lts.specs.Steps.{Table, labels}
use Rattle.lts.specs.inner.Prepared.{prepared_table}
use Rattle.lts.proofs.Laws.Refusals.{Numbered, numbered-unless, numbered-answers}
use Rattle.actl.specs.Sizes.{longest_text, formula_length}
use Rattle.actl.specs.Formulas.{Formula}
use Rattle.actl.specs.Foreign.{RefusesForeign}
use Rattle.actl.specs.FormulaReading.{with_formula, long_enough, on_prepared}
use Rattle.lts.specs.Prepared.{with_table}
use Rattle.actl.specs.inner.Prepared.{prepared_formula}
use Rattle.actl.proofs.Laws.Foreign.{NotTen, with_formula-numbers, refuses_foreign, answers_refuse_foreign}
use Rattle.lts.proofs.Laws.Refusals.{with_table-numbers}
use Rattle.actl.proofs.Laws.Replies.{unless-accepted, long-enough-accepted, on-prepared-accepted, accepted-answer}
use Rattle.written_back.specs.FormulaText.{formula_text}
use Rattle.written_back.specs.FormulaWriting.{unless_long, formula_writing, formula_written, text_left}
use Rattle.written_back.specs.ReadBack.{RestoresBytes, Restored}
use Rattle.written_back.proofs.ReadBack.{restores_bytes}

-- The text of the table and the formula in prepared bytes.
abbrev pub text_in : Table → Formula → Reply (List ℕ)
text_in t F = unless_long (formula_text t.names F)

abbrev behind_lengths : List ℕ → List ℕ → Reply (List ℕ)
behind_lengths table formula = with_table (prepared_table table) (λ t. with_formula (prepared_formula (labels t) formula) (λ F. text_in t F))

same-accepted : {A : Type 0} {a b : A} → accepted a ≡ accepted b → a ≡ b
same-accepted e = cc

-- The numbers of its refusals.
abbrev pub WritingNumber : ℕ → Type 0
WritingNumber n = (n ≡ 10) ⊎ ((n ≡ 14) ⊎ (n ≡ 15))

fourteen : WritingNumber 14
fourteen = inr (inl refl)

module _ (table formula text : List ℕ) where
  -- With room for the text: what the prepared bytes say.
  pub with_room : longest_text ≤ length text → formula_writing table formula text ≡ on_prepared table formula text_in
  unfolding formula_writing
  with_room room =
      ap (λ b. long_enough table formula (unless b 14 longest_text (behind_lengths table formula))) (le-leb longest_text (length text) room)

  -- An accepted call had it.
  had_room : {s : List ℕ} → formula_writing table formula text ≡ accepted s → longest_text ≤ length text
  unfolding formula_writing
  had_room e =
      let behind = behind_lengths table formula in
      let inside = unless (leb longest_text (length text)) 14 longest_text behind in
      leb-true longest_text (length text)
      (unless-accepted (leb longest_text (length text)) 14 longest_text behind (long-enough-accepted table formula inside e)).0

  text_restores : {s : List ℕ} → formula_writing table formula text ≡ accepted s → RestoresBytes table formula s
  text_restores {s} e =
      let p = on-prepared-accepted table formula text_in (sym (with_room (had_room e)) ∙ e) in
      let t = p.table_in_lem in
      let F = p.formula_in in
      let written = formula_text t.names F in
      let (short, same) = unless-accepted (leb (length written) longest_text) 15 (length written) (accepted written) p.goes_on in
      subst (RestoresBytes table formula) (same-accepted same)
      (restores_bytes table formula t F p.is_table p.is_formula (leb-true (length written) longest_text short))

  -- What an accepted call left in its first n bytes reads back to the very bytes of the formula.
  pub written-accepted : (n : ℕ) → formula_written table formula text ≡ accepted n
      → RestoresBytes table formula (take n (text_left table formula text))
  written-accepted n e =
      let (s, d) = accepted-answer length (formula_writing table formula text) e in
      let count : length s ≡ n = same-accepted (sym (ap (answers length) d) ∙ e) in
      let left : take n (text_left table formula text) ≡ s =
      ap (λ r. take n (left_in (λ l. l) r text)) d ∙ take_at s (drop (length s) text) n count in
      subst (RestoresBytes table formula) (sym left) (text_restores d)

  -- The same of every call.
  pub restored : Restored table formula (formula_written table formula text) (text_left table formula text)
  restored = case (formula_written table formula text) refl
    where
      case : (r : Reply ℕ) → formula_written table formula text ≡ r → Restored table formula r (text_left table formula text)
      case (accepted n) e = written-accepted n e
      case (refusal number figure) e = tt

  -- The numbers that it may be refused with: 10, 14 and 15.
  pub refusals : Numbered WritingNumber (formula_written table formula text)
  unfolding formula_writing
  refusals =
      numbered-answers WritingNumber length (formula_writing table formula text)
      (numbered-unless WritingNumber (leb table_length (length table)) 14 _ _ fourteen
      (numbered-unless WritingNumber (leb formula_length (length formula)) 14 _ _ fourteen
      (numbered-unless WritingNumber (leb longest_text (length text)) 14 _ _ fourteen
      (with_table-numbers WritingNumber (inl refl) (prepared_table table) _ (λ t. with_formula-numbers WritingNumber (inl refl) (prepared_formula (labels t) formula) _ (λ F.
      let written = formula_text t.names F in
      numbered-unless WritingNumber (leb (length written) longest_text) 15 (length written) (accepted written) (inr (inr refl)) tt))))))

  -- 10 is exactly for foreign bytes.
  pub written_refuses_foreign : longest_text ≤ length text → RefusesForeign table formula (formula_written table formula text)
  written_refuses_foreign room =
      answers_refuse_foreign table formula length (formula_writing table formula text)
      (subst (RefusesForeign table formula) (sym (with_room room)) (refuses_foreign table formula text_in (λ t F.
      let written = formula_text t.names F in
      numbered-unless NotTen (leb (length written) longest_text) 15 (length written) (accepted written) (λ e. omega arith) tt)))
