-- An entry over prepared bytes, test by test: 01's "Order: 14 first, then 10 (table before formula)".
use mathlib.Core.Path.{◌≡◌, refl, sym, ap, ◌∙◌, subst}
use mathlib.Core.Bool.{Bool, true, false, true≢false}
use mathlib.Core.List.{List}
use mathlib.Core.Option.{Option, none, some}
use Prim.Native.Nat.{ℕ, ◌≤◌, ◌<◌}
use native.Mathlib.Omega.{arith}
use lib.Dec.{leb}
use Rattle.std.proofs.Common.{Result, Ok, Err}
use lib.ListN.{length}
use borrow.Author.Tests.{le-leb, lt-leb}
use Rattle.actl.specs.Sizes.{formula_length}
use Rattle.lts.specs.Sizes.{table_length}
use Rattle.lts.specs.Reply.{Reply, accepted, refusal, unless}
use Rattle.lts.specs.Steps.{Table, labels}
use Rattle.lts.specs.inner.Prepared.{table_in, prepared_table}
use Rattle.lts.specs.inner.HoldsTable.{HoldsTable}
use Rattle.lts.specs.inner.Answers.{is_some}
use Rattle.lts.proofs.Laws.Prepared.{prepared_in, prepared-of, prepared-holds}
use Rattle.actl.specs.Formulas.{Formula}
use Rattle.actl.specs.inner.Prepared.{prepared_formula}
use Rattle.actl.specs.inner.HoldsFormula.{HoldsFormula}
use Rattle.actl.specs.FormulaReading.{with_formula, on_prepared}
use Rattle.lts.specs.Prepared.{with_table}
use Rattle.formula_check.specs.Inputs.{unprepared, inputs_reply}
use Rattle.formula_check.specs.declared.inputs.Unprepared.{Unprepared}
use Rattle.actl.proofs.Laws.Replies.{accepted_lengths, on-prepared-accepted}

none_of : {A : Type 0} (o : Option A) → is_some o ≡ false → o ≡ none
none_of none e = refl
none_of (some a) e = absurd (true≢false e)

module _ {A : Type 0} (table formula : List ℕ) (next : Table → Formula → Reply A) where
  pub table-short : length table < table_length → on_prepared table formula next ≡ refusal 14 table_length
  table-short h = rw (lt-leb table_length (length table) h)

  module _ (long : table_length ≤ length table) where
    pub formula-short : length formula < formula_length → on_prepared table formula next ≡ refusal 14 formula_length
    formula-short h = rw (le-leb table_length (length table) long, lt-leb formula_length (length formula) h)

    module _ (enough : formula_length ≤ length formula) where
      pub both_long : on_prepared table formula next ≡ with_table (prepared_table table) (λ t. with_formula (prepared_formula (labels t) formula) (λ F. next t F))
      both_long = rw (le-leb table_length (length table) long, le-leb formula_length (length formula) enough)

      pub table_foreign : is_some (prepared_table table) ≡ false → on_prepared table formula next ≡ refusal 10 0
      table_foreign e = both_long ∙ ap (λ o. with_table o (λ t. with_formula (prepared_formula (labels t) formula) (λ F. next t F))) (none_of (prepared_table table) e)

      module _ (e : is_some (prepared_table table) ≡ true) where
        table-known : on_prepared table formula next ≡ with_formula (prepared_formula (labels (table_in table)) formula) (λ F. next (table_in table) F)
        table-known = both_long ∙ ap (λ o. with_table o (λ t. with_formula (prepared_formula (labels t) formula) (λ F. next t F))) (prepared_in table e)

        pub formula_foreign : is_some (prepared_formula (labels (table_in table)) formula) ≡ false → on_prepared table formula next ≡ refusal 10 1
        formula_foreign d = table-known ∙ ap (λ o. with_formula o (λ F. next (table_in table) F)) (none_of (prepared_formula (labels (table_in table)) formula) d)

        pub both-prepared : (F : Formula) → prepared_formula (labels (table_in table)) formula ≡ some F → on_prepared table formula next ≡ next (table_in table) F
        both-prepared F d = table-known ∙ ap (λ o. with_formula o (λ F. next (table_in table) F)) d

abbrev nothing : Reply (Unit {0})
nothing = accepted tt

-- What a refusal of one reply says of another that tests the same.
module _ {A B : Type 0} {n g : ℕ} where
  refusal_again : (m f : ℕ) → ◌≡◌ {A = Reply A} (refusal m f) (refusal n g) → ◌≡◌ {A = Reply B} (refusal m f) (refusal n g)
  refusal_again m f e = let a : m ≡ n = cc in let b : f ≡ g = cc in λ i. refusal (a i) (b i)

  unless_again : (b : Bool) (m f : ℕ) (x : Reply A) (y : Reply B) → (x ≡ refusal n g → y ≡ refusal n g) → unless b m f x ≡ refusal n g → unless b m f y ≡ refusal n g
  unless_again true m f x y h e = h e
  unless_again false m f x y h e = refusal_again m f e

module _ {A : Type 0} {n g : ℕ} (next : Table → Formula → Reply A) where
  formula_again : (t : Table) (o : Option Formula) → with_formula o (λ F. nothing) ≡ refusal n g → with_formula o (λ F. next t F) ≡ refusal n g
  formula_again t none e = refusal_again 10 1 e
  formula_again t (some F) e = let z : ◌≡◌ {A = ℕ} 0 1 = cc in absurd (omega arith)

  table_again : (formula : List ℕ) (o : Option Table) → with_table o (λ t. with_formula (prepared_formula (labels t) formula) (λ F. nothing)) ≡ refusal n g
      → with_table o (λ t. with_formula (prepared_formula (labels t) formula) (λ F. next t F)) ≡ refusal n g
  table_again formula none e = refusal_again 10 0 e
  table_again formula (some t) e = formula_again t (prepared_formula (labels t) formula) e

-- What `check_inputs` answers, and what it says of an entry that goes on with `next`.
abbrev pub checked : List ℕ → List ℕ → Reply (Unit {0})
checked table formula = on_prepared table formula (λ t F. nothing)

module _ (table formula : List ℕ) where
  pub refused_again : {A : Type 0} {n g : ℕ} (next : Table → Formula → Reply A) → checked table formula ≡ refusal n g → on_prepared table formula next ≡ refusal n g
  refused_again next e =
      unless_again (leb table_length (length table)) 14 table_length _ _
      (unless_again (leb formula_length (length formula)) 14 formula_length _ _ (table_again next formula (prepared_table table))) e

  pub unprepared_again : {A : Type 0} (next : Table → Formula → Reply A) (why : Unprepared) → unprepared why ≡ checked table formula → unprepared why ≡ on_prepared table formula next
  unprepared_again next why e = sym (refused_again next (sym e))

  -- Where the check refuses nothing, the entry goes on with the table and the formula in the bytes.
  pub record Both : Type 0 where
    pub table_held : HoldsTable table
    pub formula_in : Formula
    pub prepared : prepared_formula (labels (table_in table)) formula ≡ some formula_in
    pub is_table : prepared_table table ≡ some (table_in table)
    pub table_long : table_length ≤ length table
    pub formula_long : formula_length ≤ length formula

  pub both : accepted tt ≡ checked table formula → Both
  both e =
      let p = on-prepared-accepted table formula (λ t F. nothing) (sym e) in
      let l = accepted_lengths table formula (with_table (prepared_table table) (λ t. with_formula (prepared_formula (labels t) formula) (λ F. nothing))) (sym e) in
      let q = prepared_in table (ap is_some p.is_table) in
      let s = sym (prepared-of table p.table_in_lem p.is_table).2 in
      record {
        table_held = prepared-holds table p.table_in_lem p.is_table;
        formula_in = p.formula_in;
        prepared = ap (λ (t : Table). prepared_formula (labels t) formula) (sym s) ∙ p.is_formula;
        is_table = q;
        table_long = l.0;
        formula_long = l.1;
      }

  pub goes_on : {A : Type 0} (next : Table → Formula → Reply A) (b : Both) (F : Formula) → prepared_formula (labels (table_in table)) formula ≡ some F
      → on_prepared table formula next ≡ next (table_in table) F
  goes_on next b F d = both-prepared table formula next b.table_long b.formula_long (ap is_some b.is_table) F d

  -- The same by the case that `check_inputs` answered, for the entries that call it.
  module _ {i : Result (Unit {0}) Unprepared} (outcome : inputs_reply i ≡ checked table formula) where
    pub inputs_refused : {A : Type 0} (next : Table → Formula → Reply A) {why : Unprepared} → i ≡ Err why → unprepared why ≡ on_prepared table formula next
    inputs_refused next {why} e = unprepared_again next why (subst (λ r. inputs_reply r ≡ checked table formula) e outcome)

    pub inputs_prepared : {held : Unit {0}} → i ≡ Ok held → Both
    inputs_prepared e = both (subst (λ r. inputs_reply r ≡ checked table formula) e outcome)

  pub both-held : Both → HoldsTable table × HoldsFormula (labels (table_in table)) formula
  both-held b = (b.table_held, record { formula = b.formula_in; prepared = b.prepared })
