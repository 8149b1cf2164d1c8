-- The beginnings of two texts get the answer that the whole texts get, but for the length of a formula of more than 512 bytes.
use mathlib.Core.Path.{◌≡◌, refl, ap, ◌∙◌}
use mathlib.Core.Bool.{Bool, true, false, cond}
use mathlib.Core.List.{List}
use Prim.Native.Nat.{ℕ, ◌≤◌, ◌<◌}
use native.Mathlib.Omega.{arith}
use lib.Dec.{leb}
use lib.ListN.{length, take, length-take}
use lib.Seq.{take_all}
use borrow.Author.Tests.{leb-true, leb-false, lt-leb, ne_eqb}
use Rattle.lts.specs.inner.Sizes.{enough_table_text}
use Rattle.lts.specs.Reply.{Reply, accepted, refusal, unless}
use Rattle.lts.specs.Steps.{Table}
use Rattle.lts.specs.Reading.{read_table}
use Rattle.lts.proofs.Laws.Bounded.{reading_bounded}
use Rattle.lts.proofs.Laws.Reading.{unless-to}
use Rattle.lts.proofs.Laws.Refusals.{Numbered, Between, numbered-answers, numbered_so, table-numbers, unless-false}
use Rattle.actl.specs.Sizes.{longest_text}
use Rattle.actl.specs.Formulas.{Formula}
use Rattle.actl.specs.inner.Reader.{read}
use Rattle.actl.specs.inner.Reading.{read_unlimited, read_formula}
use Rattle.actl.proofs.Laws.Refusals.{result_numbers, reading-numbers}
use Rattle.automaton.specs.inner.Search.{listing}
use Rattle.automaton.specs.Build.{fitted}
use Rattle.automaton.proofs.Refusals.{fitted-numbers}
use Rattle.explanations.specs.Explanation.{and_then, explanation}
use Rattle.explanations.specs.inner.BothTexts.{Read, readings}
use Rattle.explanations.specs.inner.Printed.{with_length}
use Rattle.explanations.specs.inner.Sizes.{kept_length}

-- Replies that are no refusal 5.
abbrev pub NotLength : ℕ → Type 0
NotLength number = number ≡ 5 → ⊥

abbrev Other : {A : Type 0} → Reply A → Type 0
Other r = Numbered NotLength r

-- Such a reply stays as it is; only what comes of its value may get the length.
other-kept : {A : Type 0} (n : ℕ) (r : Reply A) → Other r → with_length n r ≡ r
other-kept n (accepted a) o = refl
other-kept n (refusal k g) o = ap (λ b. refusal k (cond b n g)) (ne_eqb k 5 o)

other-next : {A B : Type 0} (n : ℕ) (r : Reply A) (f g : A → Reply B) → Other r → ((a : A) → with_length n (f a) ≡ g a)
    → with_length n (and_then r f) ≡ and_then r g
other-next n (accepted a) f g o h = h a
other-next n (refusal k m) f g o h = other-kept n (refusal k m) o

-- Both texts read, then anything else.
abbrev pub readings-then : {B : Type 0} → (Table → Formula → Reply B) → List ℕ → List ℕ → Reply B
readings-then next table text = and_then (read_table table) (λ t. and_then (read_formula t.names text) (next t))

-- It goes on with what was read, and refuses with 1 to 9 or as what comes next does.
pub of-readings : {B : Type 0} (next : Table → Formula → Reply B) (table text : List ℕ)
    → readings-then next table text ≡ and_then (readings table text) (λ x. next x.table x.formula)
of-readings {B} next table text = by_table (read_table table)
  where
    goes : Read → Reply B
    goes x = next x.table x.formula

    by_formula : (t : Table) (r : Reply Formula) → and_then r (next t) ≡ and_then (and_then r (λ F. accepted (record { table = t; formula = F }))) goes
    by_formula t (accepted F) = refl
    by_formula t (refusal n g) = refl

    by_table : (r : Reply Table) → and_then r (λ t. and_then (read_formula t.names text) (next t))
        ≡ and_then (and_then r (λ t. and_then (read_formula t.names text) (λ F. accepted (record { table = t; formula = F })))) goes
    by_table (accepted t) = by_formula t (read_formula t.names text)
    by_table (refusal n g) = refl

numbered_next : {A B : Type 0} (P : ℕ → Type 0) (r : Reply A) (f : A → Reply B) → Numbered P r → ((a : A) → Numbered P (f a))
    → Numbered P (and_then r f)
numbered_next P (accepted a) f o h = h a
numbered_next P (refusal n g) f o h = o

pub then-numbers : {B : Type 0} (most : ℕ) → 9 ≤ most → (next : Table → Formula → Reply B) → ((t : Table) (F : Formula) → Numbered (Between 1 most) (next t F))
    → (table text : List ℕ) → Numbered (Between 1 most) (readings-then next table text)
then-numbers most h next o table text =
    numbered_next (Between 1 most) (read_table table) _
    (numbered_so (Between 1 4) (Between 1 most) (λ n b. (b.0, omega (arith, b.1))) (read_table table) (table-numbers table)) (λ t.
    numbered_next (Between 1 most) (read_formula t.names text) _
    (numbered_so (Between 5 9) (Between 1 most) (λ n b. (omega (arith, b.0), omega (arith, b.1))) (read_formula t.names text)
    (reading-numbers t.names text)) (o t))

-- If that is never refused with 5, the beginnings get the answer of the whole texts.
module _ {B : Type 0} (next : Table → Formula → Reply B) (other : (t : Table) (F : Formula) → Other (next t F)) where
  formula-begun : (text : List ℕ) (t : Table)
      → with_length (length text) (and_then (read_formula t.names (take kept_length text)) (next t))
      ≡ and_then (read_formula t.names text) (next t)
  unfolding read_formula
  formula-begun text t = by (leb n longest_text) refl
    where
      n : ℕ
      n = length text

      head : List ℕ
      head = take kept_length text

      unlimited : List ℕ → Reply Formula
      unlimited = read_unlimited t.names

      by : (b : Bool) → leb n longest_text ≡ b
          → with_length n (and_then (read_formula t.names head) (next t)) ≡ and_then (unless b 5 n (unlimited text)) (next t)
      by true e =
          let all : head ≡ text = take_all kept_length text (omega (arith, leb-true n longest_text e)) in
          let is = ap (read_formula t.names) all ∙ unless-to (leb n longest_text) 5 n (unlimited text) e in
          let numbers = result_numbers t.names text (read text) in
          let o = numbered_so (Between 6 9) NotLength (λ k h d. omega (arith, h.0)) (unlimited text) numbers in
          ap (λ r. with_length n (and_then r (next t))) is
          ∙ other-next n (unlimited text) (next t) (next t) o (λ F. other-kept n (next t F) (other t F))
      by false e =
          let long : longest_text < length head = omega (arith, leb-false n longest_text e, length-take kept_length text) in
          let is = unless-false (leb (length head) longest_text) 5 (length head) (unlimited head) (lt-leb (length head) longest_text long) in
          ap (λ r. with_length n (and_then r (next t))) is

  pub texts_begun : (m : ℕ) (table text : List ℕ) → enough_table_text ≤ m
      → with_length (length text) (readings-then next (take m table) (take kept_length text)) ≡ readings-then next table text
  texts_begun m table text h =
      let o = numbered_so (Between 1 4) NotLength (λ n h d. omega (arith, h.1)) (read_table table) (table-numbers table) in
      ap (λ r. with_length (length text) (and_then r (λ t. and_then (read_formula t.names (take kept_length text)) (next t))))
      (reading_bounded m table h) ∙ other-next (length text) (read_table table) _ _ o (formula-begun text)

pub explanation-begun : (rows edges : List ℕ) (m : ℕ) (table text : List ℕ) → enough_table_text ≤ m
    → with_length (length text) (explanation (take m table) (take kept_length text) rows edges) ≡ explanation table text rows edges
explanation-begun rows edges =
    texts_begun _ (λ t F.
    let r = fitted (listing t F) rows edges in
    let o = numbered_so (Between 11 12) NotLength (λ n h d. omega (arith, h.0)) r (fitted-numbers (listing t F) rows edges) in
    numbered-answers NotLength _ r o)
