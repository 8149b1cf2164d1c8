-- Lines: the first line of a text, and what each kind of line says.
use mathlib.Core.Path.{◌≡◌, refl, sym, ap, ap₂, ◌∙◌, subst}
use mathlib.Core.Logic.{◌⊎◌, inl, inr}
use mathlib.Core.Bool.{Bool, true, false, cond}
use mathlib.Core.List.Memᴰ
use mathlib.Core.List.{List, [], ◌∷◌, ◌++◌, Memᴰ}
use Prim.Native.Nat.{ℕ, ◌<◌}
use native.Mathlib.Omega.{arith}
use lib.Dec.{eqb}
use lib.ListN.{drop}
use lib.Seq.{drop-append-add}
use borrow.Author.Tests.{eqb-true, ne_eqb}
use Rattle.columns.specs.Bytes.{same_bytes}
use Rattle.columns.specs.Columns.{column, value_at}
use Rattle.columns.proofs.Laws.Bytes.{same-to}
use Rattle.columns.proofs.Laws.Columns.{Digit, column-length, column-are, value-here, value-last, value-past}
use Rattle.lts.specs.Steps.{Step}
use Rattle.lts.specs.Names.{is_name}
use Rattle.lts.specs.Text.{ended, header_line, label_line, transition_line}
use Rattle.lts.specs.Reading.{Line, missing, line, longer, first_line, Header, header_of, header_laid_out, step_of, step_laid_out}
use Rattle.lts.specs.inner.Reading.{label_laid_out}
use Rattle.lts.proofs.Booleans.{and-true-to}
use Rattle.lts.proofs.Laws.Tests.{NameShape}

-- No LF in it.
abbrev pub Unbroken : List ℕ → Type 0
Unbroken l = (b : ℕ) → Memᴰ b l → b ≡ 10 → ⊥

pub unbroken_append : (l m : List ℕ) → Unbroken l → Unbroken m → Unbroken (l ++ m)
unbroken_append l m r s b d e = step (Memᴰ.append_cases l d)
  where
    step : Memᴰ b l ⊎ Memᴰ b m → ⊥
    step (inl n) = r b n e
    step (inr n) = s b n e

pub column_unbroken : (n : ℕ) → Unbroken (column n)
column_unbroken n b m e = step (column-are n b m)
  where
    step : (b ≡ 32) ⊎ Digit b → ⊥
    step (inl d) = omega arith
    step (inr d) = omega arith

pub first-line-to : (l rest : List ℕ) → Unbroken l → first_line (ended l ++ rest) ≡ line l rest
first-line-to [] rest h = refl
first-line-to (x ∷ l) rest h =
    ap (λ (t : Bool). cond t (line [] (ended l ++ rest)) (longer x (first_line (ended l ++ rest)))) (ne_eqb x 10 (h x (Memᴰ.head refl)))
    ∙ ap (longer x) (first-line-to l rest (λ b m. h b (Memᴰ.tail m)))

pub first-line-of : (text l rest : List ℕ) → first_line text ≡ line l rest → text ≡ ended l ++ rest
first-line-of [] l rest e = let z : ◌≡◌ {A = ℕ} 0 1 = cc in absurd (omega arith)
first-line-of (b ∷ s) l rest e = step (eqb b 10) refl (first_line s) refl e (first-line-of s)
  where
    step : (t : Bool) → eqb b 10 ≡ t → (f : Line) → first_line s ≡ f → cond t (line [] s) (longer b f) ≡ line l rest
        → ((m r : List ℕ) → first_line s ≡ line m r → s ≡ ended m ++ r) → b ∷ s ≡ ended l ++ rest
    step true d f g e' h =
        let z : b ≡ 10 = eqb-true b 10 d in
        let p : [] ≡ l = cc in
        let q : s ≡ rest = cc in
        subst (λ (m : List ℕ). b ∷ s ≡ ended m ++ rest) p (λ i. z i ∷ q i)
    step false d missing g e' h = let z : ◌≡◌ {A = ℕ} 0 1 = cc in absurd (omega arith)
    step false d (line m r) g e' h =
        let p : b ∷ m ≡ l = cc in
        let q : r ≡ rest = cc in
        subst (λ (k : List ℕ). b ∷ s ≡ ended k ++ rest) p (ap (λ k. b ∷ k) (subst (λ (k : List ℕ). s ≡ ended m ++ k) q (h m r g)))

-- The header's line.
module _ (a b c d : ℕ) (p : a < 1000000) (q : b < 1000000) (r : c < 1000000) (s : d < 1000000) where
  abbrev pub header : Header
  header = record { states = a; labels = b; transitions = c; start = d }

  pub header_of_lem : header_of (header_line a b c d) ≡ header
  header_of_lem =
      let first : value_at 0 (header_line a b c d) ≡ a = value-here a _ p in
      let second : value_at 6 (header_line a b c d) ≡ b = value-past 0 a _ p ∙ value-here b _ q in
      let third : value_at 12 (header_line a b c d) ≡ c = value-past 6 a _ p ∙ (value-past 0 b _ q ∙ value-here c _ r) in
      let fourth : value_at 18 (header_line a b c d) ≡ d = value-past 12 a _ p ∙ (value-past 6 b _ q ∙ (value-past 0 c _ r ∙ value-last d s)) in
      λ i. record { states = first i; labels = second i; transitions = third i; start = fourth i }

  pub header-laid_out : header_laid_out (header_of (header_line a b c d)) (header_line a b c d) ≡ true
  header-laid_out = same-to (header_line a b c d) _ (ap (λ (h : Header). header_line h.states h.labels h.transitions h.start) (sym header_of_lem))

pub header_unbroken : (a b c d : ℕ) → Unbroken (header_line a b c d)
header_unbroken a b c d =
    unbroken_append (column a) _ (column_unbroken a)
    (unbroken_append (column b) _ (column_unbroken b) (unbroken_append (column c) (column d) (column_unbroken c) (column_unbroken d)))

-- A label's line.
module _ (k : ℕ) (name : List ℕ) (p : k < 1000000) where
  pub label-number : value_at 0 (label_line k name) ≡ k
  label-number = value-here k (32 ∷ name) p

  pub label-name : drop 7 (label_line k name) ≡ name
  label-name = rw (column-length k p) at (drop-append-add (column k) (32 ∷ name) 1)

  pub label-laid_out : is_name name ≡ true → label_laid_out (label_line k name) ≡ true
  label-laid_out e =
      and-true-to (same_bytes (label_line k name) (label_line (value_at 0 (label_line k name)) (drop 7 (label_line k name)))) (is_name (drop 7 (label_line k name)))
      (same-to (label_line k name) _ (ap₂ label_line (sym label-number) (sym label-name))) (ap is_name label-name ∙ e)

pub label_unbroken : (k : ℕ) (name : List ℕ) → NameShape name → Unbroken (label_line k name)
label_unbroken k name h = unbroken_append (column k) (32 ∷ name) (column_unbroken k) rest
  where
    member : (b : ℕ) → (b ≡ 32) ⊎ Memᴰ b name → b ≡ 10 → ⊥
    member b (inl e) d = omega arith
    member b (inr m) d = omega (arith, (h.bytes b m).0)

    rest : Unbroken (32 ∷ name)
    rest b m e = member b (Memᴰ.cases_cons m) e

-- A transition's line.
module _ (st : Step) (p : st.from < 1000000) (q : st.label < 1000000) (r : st.to < 1000000) where
  pub step-of : step_of (transition_line st) ≡ st
  step-of =
      let first : value_at 0 (transition_line st) ≡ st.from = value-here st.from _ p in
      let second : value_at 6 (transition_line st) ≡ st.label = value-past 0 st.from _ p ∙ value-here st.label _ q in
      let third : value_at 12 (transition_line st) ≡ st.to = value-past 6 st.from _ p ∙ (value-past 0 st.label _ q ∙ value-last st.to r) in
      λ i. record { from = first i; label = second i; to = third i }

  pub step-laid_out : step_laid_out (transition_line st) ≡ true
  step-laid_out = same-to (transition_line st) _ (ap transition_line (sym step-of))

pub step_unbroken : (st : Step) → Unbroken (transition_line st)
step_unbroken st =
    unbroken_append (column st.from) _ (column_unbroken st.from) (unbroken_append (column st.label) (column st.to) (column_unbroken st.label) (column_unbroken st.to))
