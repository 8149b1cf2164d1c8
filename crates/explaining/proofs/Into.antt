-- What is answered and left by reading both texts and building, once the lent buffers are long enough.
use mathlib.Core.Path.{◌≡◌, refl, sym, ap, ◌∙◌, subst}
use mathlib.Core.List.{List}
use Prim.Native.Nat.{ℕ}
use Rattle.std.proofs.Common.{Result, Ok, Err}
use Rattle.lts.specs.Reply.{Reply, accepted, refusal}
use Rattle.lts.specs.Steps.{labels}
use Rattle.lts.specs.inner.Prepared.{prepared_table}
use Rattle.actl.specs.inner.Prepared.{prepared_formula}
use Rattle.explanations.specs.Explanation.{Explanation, and_then, explanation}
use Rattle.explanations.specs.inner.BothTexts.{Read, readings, HoldsBoth, listing_of}
use Rattle.explaining.specs.inner.Readings.{ReadBoth}
use Rattle.explaining.specs.Outcome.{Outcome}
use Rattle.explaining.specs.declared.explained.Explained.{Explained}
use Rattle.replies.specs.declared.Answer.{Answer}
use Rattle.explaining.proofs.Explaining.{explanation-of-readings, readings-prepared}

-- The outcome of one explanation is that of an equal one.
pub same_outcome : {e e' : Reply Explanation} {r : Result Explained Answer} {table table' formula formula' rows rows' edges edges' : List ℕ} → e ≡ e'
    → Outcome e' r table table' formula formula' rows rows' edges edges' → Outcome e r table table' formula formula' rows rows' edges edges'
same_outcome {r} {table} {table'} {formula} {formula'} {rows} {rows'} {edges} {edges'} z s =
    subst (λ (y : Reply Explanation). Outcome y r table table' formula formula' rows rows' edges edges') (sym z) s

-- A refusal leaves what is lent.
pub refusal-outcome : {e : Reply Explanation} (a : Answer) → e ≡ refusal a.number a.figure → {table formula rows edges : List ℕ}
    → Outcome e (Err a) table table formula formula rows rows edges edges
refusal-outcome a z = same_outcome z (record { reply = refl; table_left_lem = refl; formula_left_lem = refl; rows_left = refl; edges_left_lem = refl })

-- What was read, out of what `read_both` said.
pub record WasRead (table_text formula_text t f : List ℕ) : Type 0 where
  pub both : Read
  pub read : readings table_text formula_text ≡ accepted both
  pub held : HoldsBoth t f both

module _ (table_text formula_text t f : List ℕ) {y : Result (Unit {0}) Answer} (told : ReadBoth (readings table_text formula_text) y t f) where
  pub was_read : {u : Unit {0}} → y ≡ Ok u → WasRead table_text formula_text t f
  was_read {u} d = by (readings table_text formula_text) refl (subst (λ z. ReadBoth (readings table_text formula_text) z t f) d told)
    where
      by : (r : Reply Read) → readings table_text formula_text ≡ r → ReadBoth r (Ok u) t f → WasRead table_text formula_text t f
      by (refusal n g) e z = absurd z
      by (accepted x) e (a, b) =
          let p = readings-prepared table_text formula_text x e in
          record {
            both = x;
            read = e;
            held = record {
              is_table = ap prepared_table a ∙ p.is_table;
              is_formula = ap (prepared_formula (labels x.table)) b ∙ p.is_formula;
              table_bytes_lem = a;
              formula_bytes_lem = b;
            };
          }

  pub was_refused : (a : Answer) → y ≡ Err a → readings table_text formula_text ≡ refusal a.number a.figure
  was_refused a d = by (readings table_text formula_text) (subst (λ z. ReadBoth (readings table_text formula_text) z t f) d told)
    where
      by : (r : Reply Read) → ReadBoth r (Err a) t f → r ≡ refusal a.number a.figure
      by (accepted x) z = absurd z
      by (refusal m k) (p, q) = λ i. refusal (sym p i) (sym q i)

  pub reading-refused : (rows edges : List ℕ) {a : Answer} → y ≡ Err a → {table formula : List ℕ}
      → Outcome (explanation table_text formula_text rows edges) (Err a) table table formula formula rows rows edges edges
  reading-refused rows edges {a} d = refusal-outcome a (explanation-of-readings table_text formula_text rows edges
      ∙ ap (λ y. and_then y (λ x. listing_of x rows edges)) (was_refused a d))

pub listing-outcome : {table_text formula_text t f : List ℕ} (rows edges : List ℕ) (w : WasRead table_text formula_text t f)
    → {r : Result Explained Answer} {table table' formula formula' rows' edges' : List ℕ}
    → Outcome (listing_of w.both rows edges) r table table' formula formula' rows rows' edges edges'
    → Outcome (explanation table_text formula_text rows edges) r table table' formula formula' rows rows' edges edges'
listing-outcome {table_text} {formula_text} rows edges w =
    same_outcome (explanation-of-readings table_text formula_text rows edges ∙ ap (λ y. and_then y (λ x. listing_of x rows edges)) w.read)
