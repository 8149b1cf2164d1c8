-- What is built of the bytes that both readings left is what the explanation says.
use mathlib.Core.Path.{◌≡◌, refl, subst}
use mathlib.Core.List.{List, [], append-nil}
use mathlib.Core.Option.{some}
use Prim.Native.Nat.{ℕ, ◌≤◌}
use native.Mathlib.Omega.{arith}
use lib.ListN.{length, take}
use lib.Seq.{take_all}
use Rattle.actl.specs.Sizes.{formula_length}
use Rattle.lts.specs.Sizes.{table_length}
use Rattle.lts.specs.Reply.{Reply, accepted, refusal}
use Rattle.lts.specs.Steps.{Table, labels}
use Rattle.lts.specs.Reading.{read_table}
use Rattle.lts.specs.Prepared.{table_bytes}
use Rattle.lts.specs.inner.Prepared.{prepared_table}
use Rattle.lts.proofs.Laws.TableBytes.{table-bytes-length}
use Rattle.lts.proofs.Laws.Texts.{text-of-read}
use Rattle.lts.proofs.Laws.Prepared as tables
use Rattle.actl.specs.Formulas.{Formula}
use Rattle.actl.specs.inner.Reading.{read_formula}
use Rattle.actl.specs.Prepared.{formula_bytes, IsForm}
use Rattle.actl.specs.inner.Prepared.{prepared_formula}
use Rattle.actl.specs.FormulaReading.{on_prepared}
use Rattle.actl.proofs.Laws.Forms.{length-form}
use Rattle.actl.proofs.Laws.Replies.{on-prepared_goes}
use Rattle.actl.proofs.Laws.Prepared as formulas
use Rattle.actl.proofs.Laws.Accepted.{reading-leaves-form}
use Rattle.explanations.specs.Explanation.{Explanation, and_then, explanation}
use Rattle.explanations.specs.inner.BothTexts.{Read, readings, listing_of}

abbrev both : Table → Formula → Read
both t F = record { table = t; formula = F }

-- An explanation is both readings, then the listing of what was read.
pub explanation-of-readings : (table_text formula_text rows edges : List ℕ)
    → explanation table_text formula_text rows edges
    ≡ and_then (readings table_text formula_text) (λ x. listing_of x rows edges)
explanation-of-readings table_text formula_text rows edges = by_table (read_table table_text)
  where
    listed : Table → Formula → Reply Explanation
    listed t F = listing_of (both t F) rows edges

    by_formula : (t : Table) (r : Reply Formula) → and_then r (λ F. listed t F) ≡ and_then (and_then r (λ F. accepted (both t F))) (λ x. listing_of x rows edges)
    by_formula t (accepted F) = refl
    by_formula t (refusal n g) = refl

    by_table : (r : Reply Table) → and_then r (λ t. and_then (read_formula t.names formula_text) (λ F. listed t F))
        ≡ and_then (and_then r (λ t. and_then (read_formula t.names formula_text) (λ F. accepted (both t F)))) (λ x. listing_of x rows edges)
    by_table (accepted t) = by_formula t (read_formula t.names formula_text)
    by_table (refusal n g) = refl

-- What was read is in range, and its bytes are prepared.
pub record Prepared (table formula : List ℕ) (x : Read) : Type 0 where
  pub is_table : prepared_table table ≡ some x.table
  pub is_formula : prepared_formula (labels x.table) formula ≡ some x.formula
  pub table_long : table_length ≤ length table
  pub formula_long : formula_length ≤ length formula

same_read : {x y : Read} → accepted x ≡ accepted y → x ≡ y
same_read e = cc

pub readings-prepared : (table_text formula_text : List ℕ) (x : Read) → readings table_text formula_text ≡ accepted x
    → Prepared (table_bytes x.table) (formula_bytes x.formula) x
readings-prepared table_text formula_text x e = by_table (read_table table_text) refl e
  where
    prepared : (t : Table) (F : Formula) → read_table table_text ≡ accepted t → read_formula t.names formula_text ≡ accepted F
        → Prepared (table_bytes t) (formula_bytes F) (both t F)
    prepared t F d f =
        let range = (text-of-read table_text t d).1 in
        let wide = table-bytes-length t range in
        let form = subst (λ (b : List ℕ). IsForm (labels t) b F) (append-nil (formula_bytes F)) (reading-leaves-form t.names formula_text [] f) in
        let held : take table_length (table_bytes t) ≡ table_bytes t = take_all table_length (table_bytes t) (omega arith) in
        record {
          is_table = tables.prepared-to (table_bytes t) t range held;
          is_formula = formulas.prepared-to (labels t) (formula_bytes F) F form (omega (arith, range.few_labels));
          table_long = omega arith;
          formula_long = omega (arith, length-form F form.few);
        }

    by_formula : (t : Table) → read_table table_text ≡ accepted t → (r : Reply Formula) → read_formula t.names formula_text ≡ r
        → and_then r (λ F. accepted (both t F)) ≡ accepted x
        → Prepared (table_bytes x.table) (formula_bytes x.formula) x
    by_formula t d (accepted F) f z = subst (λ (y : Read). Prepared (table_bytes y.table) (formula_bytes y.formula) y) (same_read z) (prepared t F d f)
    by_formula t d (refusal n g) f z = absurd (let q : ◌≡◌ {A = ℕ} 0 1 = cc in omega arith)

    by_table : (r : Reply Table) → read_table table_text ≡ r
        → and_then r (λ t. and_then (read_formula t.names formula_text) (λ F. accepted (both t F))) ≡ accepted x
        → Prepared (table_bytes x.table) (formula_bytes x.formula) x
    by_table (accepted t) d z = by_formula t d (read_formula t.names formula_text) refl z
    by_table (refusal n g) d z = absurd (let q : ◌≡◌ {A = ℕ} 0 1 = cc in omega arith)

-- An entry over prepared bytes goes on with what they hold.
pub on-prepared : {A : Type 0} {table formula : List ℕ} {x : Read} → Prepared table formula x → (f : Table → Formula → Reply A)
    → on_prepared table formula f ≡ f x.table x.formula
on-prepared {table} {formula} {x} p f = on-prepared_goes table formula p.is_table p.is_formula f p.table_long p.formula_long
