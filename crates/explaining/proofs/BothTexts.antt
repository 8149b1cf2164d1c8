-- Reading both texts into buffers of just their lengths.
use mathlib.Core.Path.{◌≡◌, refl, sym, ap, ◌∙◌, subst}
use mathlib.Core.List.{List, [], ◌++◌, append-nil}
use mathlib.Core.Option.{some}
use Prim.Native.Nat.{ℕ, ◌≤◌}
use Rattle.std.proofs.Common.{Ok, Err}
use native.Mathlib.Omega.{arith}
use lib.Dec.{leb}
use lib.ListN.{length, drop_of_length-le}
use borrow.Author.Tests.{le-leb}
use Rattle.actl.specs.Sizes.{formula_length}
use Rattle.lts.specs.Sizes.{table_length}
use Rattle.lts.specs.Reply.{Reply, accepted, refusal, overwritten, left_in, answers}
use Rattle.lts.specs.Steps.{Table}
use Rattle.lts.specs.Reading.{read_table}
use Rattle.lts.specs.Prepared.{table_bytes}
use Rattle.lts.specs.inner.Prepared.{prepared_table}
use Rattle.table_text.specs.Replies as lts
use Rattle.lts.specs.TableReading.{table_reading, table_replied, table_left}
use Rattle.std.specs.Prelude.{Result, Ok, Err}
use Rattle.table_text.specs.declared.TableRefusal.{TableRefusal}
use Rattle.table_text.specs.declared.TableRefusal.TheVariants as tables
use Rattle.lts.proofs.Laws.TableBytes.{table-bytes-length}
use Rattle.lts.proofs.Laws.Prepared.{prepared-of}
use Rattle.lts.proofs.Laws.Texts.{text-of-read}
use Rattle.actl.specs.Formulas.{Formula}
use Rattle.actl.specs.inner.Reading.{read_formula}
use Rattle.actl.specs.Prepared.{formula_bytes}
use Rattle.formula_text.specs.Replies as actl
use Rattle.actl.specs.inner.Readers.{names_in}
use Rattle.formula_text.specs.inner.FormulaAnswers.{FormulaAnswered}
use Rattle.std.proofs.Common.{Result, Ok, Err}
use Rattle.formula_text.specs.declared.FormulaRefusal.{FormulaRefusal}
use Rattle.formula_text.specs.declared.FormulaRefusal.TheVariants as formulas
use Rattle.actl.proofs.Laws.Forms.{length-form}
use Rattle.actl.proofs.Laws.Accepted.{reading-leaves-form}
use Rattle.actl.proofs.Laws.Replies.{refusal-is-not-accepted}
use Rattle.replies.specs.Interface.{number_in}
use Rattle.replies.specs.inner.Says.{Says}
use Rattle.replies.specs.declared.Answer.{Answer}
use Rattle.explanations.specs.Explanation.{and_then}
use Rattle.explaining.specs.inner.Readings.{ReadBoth}
use Rattle.explanations.specs.inner.BothTexts.{Read, readings}
use Rattle.explanations.proofs.Readings.{reading-leaves-table}
use Rattle.explaining.proofs.Answers.{refused_so_lem}
use Rattle.lts.proofs.Laws.Reading.{unless-to}

-- A reply with the number 0 accepted; any other is the refusal that number and figure say.
pub table-zero : (r : Result (Unit {0}) TableRefusal) → number_in (lts.table_reply r) ≡ 0 → lts.table_reply r ≡ accepted tt
table-zero (Ok u) e = refl
table-zero (Err (tables.NotLaidOut n)) e = absurd (omega arith)
table-zero (Err (tables.OutOfRange n)) e = absurd (omega arith)
table-zero (Err (tables.NameRepeated n)) e = absurd (omega arith)
table-zero (Err (tables.NotRising n)) e = absurd (omega arith)
table-zero (Err (tables.BufferShort n)) e = absurd (omega arith)

pub formula-zero : (r : Result (Unit {0}) FormulaRefusal) → number_in (actl.formula_reply r) ≡ 0 → actl.formula_reply r ≡ accepted tt
formula-zero (Ok done) e = refl
formula-zero (Err (formulas.TooLong n)) e = absurd (omega arith)
formula-zero (Err (formulas.NotGrammatical n)) e = absurd (omega arith)
formula-zero (Err (formulas.NameUnknown n)) e = absurd (omega arith)
formula-zero (Err (formulas.TooManyNodes n)) e = absurd (omega arith)
formula-zero (Err (formulas.NoClass n)) e = absurd (omega arith)
formula-zero (Err formulas.TableForeign) e = absurd (omega arith)
formula-zero (Err (formulas.BufferShort n)) e = absurd (omega arith)

same-refusal : {A B : Type 0} (f : A → B) (r : Reply A) (n g : ℕ) → answers f r ≡ refusal n g → r ≡ refusal n g
same-refusal f (accepted a) n g e = absurd (let z : ◌≡◌ {A = ℕ} 0 1 = cc in omega arith)
same-refusal f (refusal m h) n g e = let a : m ≡ n = cc in let b : h ≡ g = cc in λ i. refusal (a i) (b i)

-- A buffer of just the length is written whole.
all-written : (bytes buffer : List ℕ) → length bytes ≡ length buffer → overwritten bytes buffer ≡ bytes
all-written bytes buffer e = let h : length buffer ≤ length bytes = omega arith in ap (λ l. bytes ++ l) (drop_of_length-le buffer h) ∙ append-nil bytes

module _ (text buffer : List ℕ) (long : length buffer ≡ table_length) where
  table-reading : table_reading text buffer ≡ read_table text
  unfolding table_reading
  table-reading = unless-to (leb table_length (length buffer)) 14 table_length (read_table text) (le-leb table_length (length buffer) (omega arith))

  pub table-refused : (r : Result (Unit {0}) TableRefusal) → lts.table_reply r ≡ table_replied text buffer → {a : Answer} → Says (λ _. 0) (lts.table_reply r) a → (a.number ≡ 0 → ⊥)
      → read_table text ≡ refusal a.number a.figure
  table-refused r e s h = sym table-reading ∙ same-refusal (λ t. tt) (table_reading text buffer) _ _ (sym e ∙ refused_so_lem (lts.table_reply r) s h)

  pub table-written : (t : Table) → read_table text ≡ accepted t → table_left text buffer ≡ table_bytes t
  table-written t e =
      ap (λ r. left_in table_bytes r buffer) (table-reading ∙ e)
      ∙ all-written (table_bytes t) buffer (table-bytes-length t (text-of-read text t e).1 ∙ sym long)

-- What both readings come to.
module _ (table_text formula_text : List ℕ) where
  abbrev over_table : Reply Table → Reply Read
  over_table r = and_then r (λ t. and_then (read_formula t.names formula_text) (λ F. accepted (record { table = t; formula = F })))

  pub both-table-refused : {a b : Answer} → b ≡ a → read_table table_text ≡ refusal a.number a.figure → (table formula : List ℕ)
      → ReadBoth (readings table_text formula_text) (Err b) table formula
  both-table-refused {a} {b} same e table formula =
      subst (λ (r : Reply Table). ReadBoth (over_table r) (Err b) table formula) (sym e) (ap (λ (x : Answer). x.number) same, ap (λ (x : Answer). x.figure) same)

  module _ (t : Table) (read : read_table table_text ≡ accepted t) where
    abbrev over_formula : Reply Formula → Reply Read
    over_formula r = and_then r (λ F. accepted (record { table = t; formula = F }))

    over : {r : Reply Formula} → read_formula t.names formula_text ≡ r → readings table_text formula_text ≡ over_formula r
    over e = ap over_table read ∙ ap over_formula e

    pub both-formula-refused : {a b : Answer} → b ≡ a → read_formula t.names formula_text ≡ refusal a.number a.figure → (table formula : List ℕ)
        → ReadBoth (readings table_text formula_text) (Err b) table formula
    both-formula-refused {a} {b} same e table formula =
        subst (λ (r : Reply Read). ReadBoth r (Err b) table formula) (sym (over e)) (ap (λ (x : Answer). x.number) same, ap (λ (x : Answer). x.figure) same)

    pub both_read : (F : Formula) → read_formula t.names formula_text ≡ accepted F → (table formula : List ℕ) → table ≡ table_bytes t → formula ≡ formula_bytes F
        → ReadBoth (readings table_text formula_text) (Ok tt) table formula
    both_read F e table formula a b = subst (λ (r : Reply Read). ReadBoth r (Ok tt) table formula) (sym (over e)) (a, b)

-- What an accepted reading into a buffer of just the length gives.
pub record TableRead (text left : List ℕ) : Type 0 where
  pub table : Table
  pub read : read_table text ≡ accepted table
  pub held : prepared_table left ≡ some table
  pub bytes : left ≡ table_bytes table
  pub whole : length left ≡ table_length

pub table-read : (text buffer : List ℕ) (r : Result (Unit {0}) TableRefusal) (left : List ℕ) → lts.table_reply r ≡ table_replied text buffer → left ≡ table_left text buffer
    → {a : Answer} → Says (λ _. 0) (lts.table_reply r) a → a.number ≡ 0 → length buffer ≡ table_length → TableRead text left
table-read text buffer r left e d s z long =
    let (t, read, held) = reading-leaves-table text buffer (sym e ∙ table-zero r (sym s.number_said ∙ z)) in
    let bytes = d ∙ table-written text buffer long t read in
    record {
      table = t;
      read = read;
      held = ap prepared_table d ∙ held;
      bytes = bytes;
      whole = ap length bytes ∙ table-bytes-length t (text-of-read text t read).1;
    }

pub record FormulaRead (t : Table) (text left : List ℕ) : Type 0 where
  pub formula : Formula
  pub read : read_formula t.names text ≡ accepted formula
  pub bytes : left ≡ formula_bytes formula

-- The formula's text over the bytes of a table: what was answered and left, by number and figure.
module _ (table text buffer : List ℕ) (long : length buffer ≡ formula_length) (t : Table) (held : prepared_table table ≡ some t) (r : Result (Unit {0}) FormulaRefusal) (left : List ℕ)
    (over : FormulaAnswered (read_formula (names_in table) text) buffer r left) {a : Answer} (said : Says (λ _. 0) (actl.formula_reply r) a) where
  answered : FormulaAnswered (read_formula t.names text) buffer r left
  answered = subst (λ (u : Table). FormulaAnswered (read_formula u.names text) buffer r left) (prepared-of table t held).2 over

  pub formula-refused : (a.number ≡ 0 → ⊥) → read_formula t.names text ≡ refusal a.number a.figure
  formula-refused h = same-refusal (λ F. tt) (read_formula t.names text) _ _ (sym answered.replies ∙ refused_so_lem (actl.formula_reply r) said h)

  pub formula-read : a.number ≡ 0 → FormulaRead t text left
  formula-read z = by (read_formula t.names text) refl
    where
      by : (x : Reply Formula) → read_formula t.names text ≡ x → FormulaRead t text left
      by (refusal n g) e =
          let refused = answered.replies ∙ ap (answers (λ F. tt)) e in
          absurd (refusal-is-not-accepted (sym refused ∙ formula-zero r (sym said.number_said ∙ z)))
      by (accepted F) e =
          let few = (reading-leaves-form t.names text [] e).few in
          record {
            formula = F;
            read = e;
            bytes = answered.leaves ∙ (ap (λ x. left_in formula_bytes x buffer) e ∙ all-written (formula_bytes F) buffer (length-form F few ∙ sym long));
          }
