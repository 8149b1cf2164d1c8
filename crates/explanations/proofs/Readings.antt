-- Readings leave prepared bytes: what was read, written over a lent buffer.
use mathlib.Core.Path.{◌≡◌, sym, ap, ◌∙◌, subst}
use mathlib.Core.List.{List}
use mathlib.Core.Option.{some}
use Prim.Native.Nat.{ℕ, ◌≤◌}
use native.Mathlib.Omega.{arith}
use lib.Dec.{leb}
use lib.ListN.{length, drop, length-append}
use lib.Seq.{take_at}
use Rattle.lts.specs.Sizes.{table_length}
use Rattle.lts.specs.Reply.{accepted, overwritten, left_in}
use Rattle.lts.specs.Steps.{Table, labels}
use Rattle.lts.specs.inner.Range.{InRange}
use Rattle.lts.specs.Reading.{read_table}
use Rattle.lts.specs.Prepared.{table_bytes}
use Rattle.lts.specs.inner.Prepared.{prepared_table}
use Rattle.lts.specs.TableReading.{table_reading, table_replied, table_left}
use Rattle.lts.proofs.Laws.Texts.{text-of-read}
use Rattle.lts.proofs.Laws.TableBytes.{table-bytes-length}
use Rattle.lts.proofs.Laws.Prepared as prepared-table
use Rattle.actl.specs.Sizes.{formula_length}
use Rattle.actl.specs.Formulas.{Formula}
use Rattle.actl.specs.inner.Reading.{read_formula}
use Rattle.actl.specs.Prepared.{formula_bytes, IsForm}
use Rattle.actl.specs.inner.Prepared.{prepared_formula}
use Rattle.actl.specs.FormulaReading.{formula_reading, formula_replied, formula_left}
use Rattle.lts.specs.Prepared.{with_table}
use Rattle.actl.proofs.Laws.Accepted.{reading-leaves-form}
use Rattle.actl.proofs.Laws.Forms.{length-form}
use Rattle.actl.proofs.Laws.Prepared as prepared-formula
use Rattle.actl.proofs.Laws.Replies.{unless-accepted, long-enough-accepted, accepted-answer}
use Rattle.automaton.proofs.Accepted.{prepared_in_range}

module _ (text : List ℕ) (t : Table) (e : read_table text ≡ accepted t) (buffer : List ℕ) where
  abbrev table_over : List ℕ
  table_over = overwritten (table_bytes t) buffer

  pub table-prepared : prepared_table table_over ≡ some t
  table-prepared =
      let w = (text-of-read text t e).1 in
      prepared-table.prepared-to table_over t w (take_at (table_bytes t) (drop (length (table_bytes t)) buffer) table_length (table-bytes-length t w))

  pub table_long : table_length ≤ length table_over
  table_long = omega (arith, length-append (table_bytes t) (drop (length (table_bytes t)) buffer), table-bytes-length t (text-of-read text t e).1)

module _ (t : Table) (w : InRange t) (text : List ℕ) (F : Formula) (e : read_formula t.names text ≡ accepted F) (buffer : List ℕ) where
  abbrev formula_over : List ℕ
  formula_over = overwritten (formula_bytes F) buffer

  pub formula-form : IsForm (labels t) formula_over F
  formula-form = reading-leaves-form t.names text (drop (length (formula_bytes F)) buffer) e

  pub formula-prepared : prepared_formula (labels t) formula_over ≡ some F
  formula-prepared = prepared-formula.prepared-to (labels t) formula_over F formula-form (omega (arith, w.few_labels))

  pub formula_long : formula_length ≤ length formula_over
  formula_long = omega (arith, length-append (formula_bytes F) (drop (length (formula_bytes F)) buffer), length-form F formula-form.few)

module _ (text buffer : List ℕ) where
  pub reading-leaves-table : table_replied text buffer ≡ accepted tt → (t : Table) × (read_table text ≡ accepted t) × (prepared_table (table_left text buffer) ≡ some t)
  unfolding table_reading
  reading-leaves-table e =
      let (t, d) = accepted-answer (λ t. tt) (table_reading text buffer) e in
      let r = (unless-accepted (leb table_length (length buffer)) 14 table_length (read_table text) d).1 in
      (t, r, ap (λ x. prepared_table (left_in table_bytes x buffer)) d ∙ table-prepared text t r buffer)

module _ (table text buffer : List ℕ) where
  pub reading-leaves-formula : (t : Table) → prepared_table table ≡ some t → formula_replied table text buffer ≡ accepted tt
      → (F : Formula) × (read_formula t.names text ≡ accepted F) × IsForm (labels t) (formula_left table text buffer) F × (prepared_formula (labels t) (formula_left table text buffer) ≡ some F)
  unfolding formula_reading
  reading-leaves-formula t p e =
      let (F, d) = accepted-answer (λ F. tt) (formula_reading table text buffer) e in
      let r = long-enough-accepted table buffer (with_table (prepared_table table) (λ t. read_formula t.names text)) d in
      let q : read_formula t.names text ≡ accepted F = sym (ap (λ o. with_table o (λ t. read_formula t.names text)) p) ∙ r in
      let left : formula_left table text buffer ≡ overwritten (formula_bytes F) buffer = ap (λ x. left_in formula_bytes x buffer) d in
      let w = prepared_in_range table p in
      (F, q, subst (λ (b : List ℕ). IsForm (labels t) b F) (sym left) (formula-form t w text F q buffer), ap (prepared_formula (labels t)) left ∙ formula-prepared t w text F q buffer)
