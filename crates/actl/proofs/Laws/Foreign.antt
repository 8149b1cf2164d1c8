-- An entry over prepared bytes refuses with 10 exactly the bytes that are foreign: no reading leaves the table's, no formula has the formula's.
use mathlib.Core.Path.{◌≡◌, refl, sym, ap, ◌∙◌, subst}
use mathlib.Core.Logic.{◌↔◌}
use mathlib.Core.List.{List}
use mathlib.Core.Option.{Option, none, some}
use Prim.Native.Nat.{ℕ, ◌≤◌}
use native.Mathlib.Omega.{arith}
use lib.Dec.{leb}
use lib.ListN.{length}
use borrow.Author.Tests.{leb-true, le-leb}
use Rattle.lts.specs.Sizes.{table_length, most_labels}
use Rattle.lts.specs.Reply.{Reply, refusal, unless, answers}
use Rattle.lts.specs.Steps.{Table, labels}
use Rattle.lts.specs.Prepared.{LeftByReading}
use Rattle.lts.specs.inner.Prepared.{prepared_table}
use Rattle.lts.proofs.Laws.Prepared.{prepared-of, prepared-to, prepared-left}
use Rattle.lts.proofs.Laws.Refusals.{Numbered, Between, numbered_of, unless-refused, answers-refused}
use Rattle.lts.proofs.Laws.Texts.{text-of-read}
use Rattle.actl.specs.Sizes.{formula_length}
use Rattle.actl.specs.Formulas.{Formula}
use Rattle.actl.specs.Prepared.{FormOfSome}
use Rattle.actl.specs.inner.Prepared.{prepared_formula}
use Rattle.actl.specs.inner.Reading.{read_formula}
use Rattle.actl.specs.FormulaReading.{with_formula, long_enough, on_prepared, on_table, formula_reading, formula_replied}
use Rattle.lts.specs.Prepared.{with_table}
use Rattle.actl.specs.Foreign.{LongEnough, TableForeign, FormulaForeign, RefusesForeign}
use Rattle.actl.proofs.Laws.Prepared.{prepared-form}
use Rattle.actl.proofs.Laws.Refusals.{reading-numbers}
use Rattle.actl.proofs.Laws.Replies.{same_some}

-- The numbers that an entry over prepared bytes may be refused with: 10, and those of what comes behind.
module _ {A : Type 0} (P : ℕ → Type 0) (ten : P 10) where
  pub with_formula-numbers : (o : Option Formula) (next : Formula → Reply A) → ((F : Formula) → Numbered P (next F)) → Numbered P (with_formula o next)
  with_formula-numbers none next h = ten
  with_formula-numbers (some F) next h = h F

abbrev pub NotTen : ℕ → Type 0
NotTen n = n ≡ 10 → ⊥

not_some : {A B : Type 0} {o : Option A} {a : A} → o ≡ none → o ≡ some a → B
not_some e d = let z : ◌≡◌ {A = ℕ} 0 1 = cc in absurd (omega arith)

-- The table in bytes that a reading leaves.
left-prepared : (table : List ℕ) (h : LeftByReading table) → prepared_table table ≡ some h.1
left-prepared table (text, t, e, d) = prepared-to table t (text-of-read text t e).1 d

few_labels : (table : List ℕ) (t : Table) → prepared_table table ≡ some t → labels t ≤ most_labels
few_labels table t e = (prepared-of table t e).0.few_labels

module _ (table formula : List ℕ) {A : Type 0} where
  long-enough-of : (g : ℕ) (next : Reply A) → long_enough table formula next ≡ refusal 10 g → LongEnough table formula × (next ≡ refusal 10 g)
  long-enough-of g next e =
      let (l, d) = unless-refused 10 g (leb table_length (length table)) 14 table_length (unless (leb formula_length (length formula)) 14 formula_length next) (λ z. omega arith) e in
      let (m, c) = unless-refused 10 g (leb formula_length (length formula)) 14 formula_length next (λ z. omega arith) d in
      (record { table_long = leb-true table_length (length table) l; formula_long = leb-true formula_length (length formula) m }, c)

  long-enough-to : LongEnough table formula → (next : Reply A) → long_enough table formula next ≡ next
  long-enough-to h next = rw (le-leb table_length (length table) h.table_long, le-leb formula_length (length formula) h.formula_long)

  -- An entry over a prepared table, that refuses for another reason behind it.
  module _ (next : Table → Reply A) (other : (t : Table) → next t ≡ refusal 10 0 → ⊥) where
    table-zero : (o : Option Table) → with_table o next ≡ refusal 10 0 → o ≡ none
    table-zero none e = refl
    table-zero (some t) e = absurd (other t e)

    foreign_of : on_table table formula next ≡ refusal 10 0 → TableForeign table formula
    foreign_of e =
        let (l, d) = long-enough-of 0 (with_table (prepared_table table) next) e in
        record { long = l; not_left = λ h. not_some (table-zero (prepared_table table) d) (left-prepared table h) }

    foreign_to : TableForeign table formula → on_table table formula next ≡ refusal 10 0
    foreign_to h = long-enough-to h.long (with_table (prepared_table table) next) ∙ case (prepared_table table) refl
      where
        case : (o : Option Table) → prepared_table table ≡ o → with_table o next ≡ refusal 10 0
        case none e = refl
        case (some t) e = absurd (h.not_left ((prepared-left table).0 (t, e)))

    pub table-refused : (on_table table formula next ≡ refusal 10 0) ↔ TableForeign table formula
    table-refused = (foreign_of, foreign_to)

  -- And behind both.
  module _ (next : Table → Formula → Reply A) (other : (t : Table) (F : Formula) → Numbered NotTen (next t F)) where
    abbrev on_formula : Table → Reply A
    on_formula t = with_formula (prepared_formula (labels t) formula) (λ F. next t F)

    never : (t : Table) (F : Formula) (g : ℕ) → next t F ≡ refusal 10 g → ⊥
    never t F g e = numbered_of NotTen (next t F) 10 g (other t F) e refl

    formula-not-zero : (t : Table) (o : Option Formula) → with_formula o (λ F. next t F) ≡ refusal 10 0 → ⊥
    formula-not-zero t none e = let z : ◌≡◌ {A = ℕ} 1 0 = cc in omega arith
    formula-not-zero t (some F) e = never t F 0 e

    formula-one : (t : Table) (o : Option Formula) → with_formula o (λ F. next t F) ≡ refusal 10 1 → o ≡ none
    formula-one t none e = refl
    formula-one t (some F) e = absurd (never t F 1 e)

    table-one : (o : Option Table) → with_table o on_formula ≡ refusal 10 1 → (t : Table) × (o ≡ some t) × (on_formula t ≡ refusal 10 1)
    table-one none e = let z : ◌≡◌ {A = ℕ} 0 1 = cc in absurd (omega arith)
    table-one (some t) e = (t, refl, e)

    formula_foreign : on_prepared table formula next ≡ refusal 10 1 → FormulaForeign table formula
    formula_foreign e =
        let (l, d) = long-enough-of 1 (with_table (prepared_table table) on_formula) e in
        let (t, s, c) = table-one (prepared_table table) d in
        let h = (prepared-left table).0 (t, s) in
        let same : t ≡ h.1 = same_some (sym s ∙ left-prepared table h) in
        record {
          long = l;
          left = h;
          not_form = subst (λ (u : Table). FormOfSome (labels u) formula → ⊥) same
              (λ f. not_some (formula-one t (prepared_formula (labels t) formula) c) ((prepared-form (labels t) (few_labels table t s) formula).1 f).1);
        }

    foreign_formula : FormulaForeign table formula → on_prepared table formula next ≡ refusal 10 1
    foreign_formula h =
        let t = h.left.1 in
        let s = left-prepared table h.left in
        long-enough-to h.long (with_table (prepared_table table) on_formula)
        ∙ (ap (λ o. with_table o on_formula) s ∙ case t (few_labels table t s) h.not_form (prepared_formula (labels t) formula) refl)
      where
        case : (t : Table) → labels t ≤ most_labels → (FormOfSome (labels t) formula → ⊥) → (o : Option Formula) → prepared_formula (labels t) formula ≡ o
            → with_formula o (λ F. next t F) ≡ refusal 10 1
        case t few no-form none e = refl
        case t few no-form (some F) e = absurd (no-form ((prepared-form (labels t) few formula).0 (F, e)))

    pub refuses_foreign : RefusesForeign table formula (on_prepared table formula next)
    refuses_foreign = record {
      of_table = table-refused on_formula (λ t. formula-not-zero t (prepared_formula (labels t) formula));
      of_formula = (formula_foreign, foreign_formula);
    }

-- A part of the values is refused for the same.
pub answers_refuse_foreign : {A B : Type 0} (table formula : List ℕ) (f : A → B) (r : Reply A) → RefusesForeign table formula r → RefusesForeign table formula (answers f r)
answers_refuse_foreign table formula f r h =
    let zero = answers-refused f r 10 0 in
    let one = answers-refused f r 10 1 in
    record {
      of_table = (λ e. h.of_table.0 (zero.0 e), λ d. zero.1 (h.of_table.1 d));
      of_formula = (λ e. h.of_formula.0 (one.0 e), λ d. one.1 (h.of_formula.1 d));
    }

-- Reading a formula over a prepared table: 10 is the table's.
pub reading_refuses_foreign : (table text buffer : List ℕ) → (formula_replied table text buffer ≡ refusal 10 0) ↔ TableForeign table buffer
unfolding formula_reading
reading_refuses_foreign table text buffer =
    let next : Table → Reply Formula = λ t. read_formula t.names text in
    let kept = answers-refused (λ (F : Formula). tt) (on_table table buffer next) 10 0 in
    let refused = table-refused table buffer next (λ t e. let h = numbered_of (Between 5 9) (next t) 10 0 (reading-numbers t.names text) e in omega (arith, h.1)) in
    (λ e. refused.0 (kept.0 e), λ d. kept.1 (refused.1 d))
