-- Laws of six columns: their bytes, their width, and the number that they hold.
use mathlib.Core.Path.{◌≡◌, refl, sym, ap, ◌∙◌, subst}
use mathlib.Core.Bool.{Bool, true, false, cond}
use mathlib.Core.List.{List, [], ◌∷◌, ◌++◌, append_assoc}
use Prim.Native.Nat.{ℕ, zero, suc, ◌+◌, ◌-◌, ◌*◌, ◌/◌, ◌%◌, ◌^◌, ◌<◌, ◌≤◌}
use native.Mathlib.Nat.{pow-succ', le_trans, mul_assoc, mul-le-mul_right}
use native.Mathlib.Numerals.{add-one}
use native.Mathlib.Omega.{arith}
use borrow.Author.Tests.{ltb-true, ltb-false, ne_eqb}
use lib.Dec.{ltb}
use lib.ListN.{length, replicate, take, drop, length-append, length-replicate, length-take, length-drop, replicate-append-replicate}
use lib.Seq.{take_all}
use Rattle.columns.specs.Bytes.{same_bytes}
use Rattle.columns.specs.Columns.{digits_within, decimal, column, value_from, value_at}
use Rattle.columns.specs.inner.Read.{column_at, column_if, lead}
use Rattle.std.specs.Prelude.{Some, None}
pub use Rattle.columns.proofs.Laws.Columns.{column-length, value-column}
use Rattle.columns.proofs.Laws.Compared.{same-of_unequal, unequal_of-same, Each, each_append, each_take}
use Rattle.columns.proofs.Laws.Bytes.{same_of, same-to}

-- A byte of a column: a blank or a digit.
abbrev pub Figure : ℕ → Type 0
Figure b = (32 ≤ b) × (b < 58)

blanks-figures : (n : ℕ) → Each Figure (replicate n 32)
blanks-figures zero = tt
blanks-figures (suc n) = ((omega arith, omega arith), blanks-figures n)

digits_figures : (k n : ℕ) → Each Figure (digits_within k n)
unfolding digits_within
digits_figures zero n = tt
digits_figures (suc k) n = step (ltb n 10) refl (digits_figures k (n / 10))
  where
    step : (t : Bool) → ltb n 10 ≡ t → Each Figure (digits_within k (n / 10)) → Each Figure (cond t ((48 + n) ∷ []) (digits_within k (n / 10) ++ ((48 + n % 10) ∷ [])))
    step true e h = ((omega arith, omega (arith, ltb-true n 10 e)), tt)
    step false e h = each_append Figure (digits_within k (n / 10)) _ h ((omega arith, omega arith), tt)

pub column-figures : (v : ℕ) → Each Figure (column v)
unfolding column
column-figures v = each_append Figure (replicate (6 - length (decimal v)) 32) (decimal v) (blanks-figures (6 - length (decimal v))) (digits_figures (suc v) v)

pub column-wide : (v : ℕ) → 6 ≤ length (column v)
unfolding column
column-wide v = simp (length-append, length-replicate) (omega arith)

-- The number that a column holds.
value_bound : (n : ℕ) (l : List ℕ) → Each Figure l → suc (value_from n l) ≤ suc n * 10 ^ length l
value_bound n [] h = omega arith
value_bound n (b ∷ l) h =
    let more : suc (n * 10 + (b - 48)) ≤ suc n * 10 = omega arith in
    le_trans (value_bound (n * 10 + (b - 48)) l h.1)
    (subst (λ x. suc (n * 10 + (b - 48)) * 10 ^ length l ≤ x) (mul_assoc (suc n) 10 (10 ^ length l) ∙ ap (λ x. suc n * x) (sym (pow-succ' 10 (length l))))
    (mul-le-mul_right (10 ^ length l) more))

-- A number that the first six bytes of its column hold has at most six digits.
pub column_narrow : (v : ℕ) → value_from 0 (take 6 (column v)) ≡ v → v < 1000000
column_narrow v e =
    let bound = value_bound 0 (take 6 (column v)) (each_take Figure 6 (column v) (column-figures v)) in
    let six : length (take 6 (column v)) ≡ 6 = simp length-take (omega (arith, column-wide v)) in
    let b : suc (value_from 0 (take 6 (column v))) ≤ 1 * 10 ^ 6 = subst (λ x. suc (value_from 0 (take 6 (column v))) ≤ 1 * 10 ^ x) six bound in
    omega arith

-- A column from its last byte.
abbrev pub leads : ℕ → ℕ → List ℕ
leads zero n = []
leads (suc w) n = leads w (n / 10) ++ (lead n ∷ [])

leads-zero : (w : ℕ) → leads w 0 ≡ replicate w 32
leads-zero zero = refl
leads-zero (suc w) = rw (leads-zero w) (replicate-append-replicate w 1 32 ∙ rw add-one)

lead-more : (n : ℕ) → 0 < n → lead n ≡ 48 + n % 10
lead-more n h = rw (ne_eqb n 0 (omega arith))

digits_columns : (w k n : ℕ) → n < k → n < 10 ^ suc w → replicate (suc w - length (digits_within k n)) 32 ++ digits_within k n ≡ leads w (n / 10) ++ ((48 + n % 10) ∷ [])
unfolding digits_within
digits_columns w zero n h b = absurd (omega arith)
digits_columns w (suc k) n h b = step (ltb n 10) refl w b (λ u. digits_columns u k (n / 10))
  where
    one : (w : ℕ) → n < 10 → replicate (suc w - 1) 32 ++ ((48 + n) ∷ []) ≡ leads w (n / 10) ++ ((48 + n % 10) ∷ [])
    one w s =
        let none : n / 10 ≡ 0 = omega arith in
        let whole : n % 10 ≡ n = omega arith in
        let less : suc w - 1 ≡ w = omega arith in
        rw (none, whole, less) (ap (λ l. l ++ ((48 + n) ∷ [])) (sym (leads-zero w)))

    more : (w : ℕ) (d : List ℕ) → 10 ≤ n → replicate (suc w - length d) 32 ++ d ≡ leads w (n / 10 / 10) ++ ((48 + n / 10 % 10) ∷ [])
        → replicate (suc (suc w) - length (d ++ ((48 + n % 10) ∷ []))) 32 ++ (d ++ ((48 + n % 10) ∷ [])) ≡ (leads w (n / 10 / 10) ++ (lead (n / 10) ∷ [])) ++ ((48 + n % 10) ∷ [])
    more w d g f =
        let same : suc (suc w) - length (d ++ ((48 + n % 10) ∷ [])) ≡ suc w - length d = simp length-append (omega arith) in
        rw (same, lead-more (n / 10) (omega arith), ← f) (sym (append_assoc (replicate (suc w - length d) 32) d ((48 + n % 10) ∷ [])))

    step : (t : Bool) → ltb n 10 ≡ t → (w : ℕ) → n < 10 ^ suc w
        → ((u : ℕ) → n / 10 < k → n / 10 < 10 ^ suc u → replicate (suc u - length (digits_within k (n / 10))) 32 ++ digits_within k (n / 10) ≡ leads u (n / 10 / 10) ++ ((48 + n / 10 % 10) ∷ []))
        → replicate (suc w - length (cond t ((48 + n) ∷ []) (digits_within k (n / 10) ++ ((48 + n % 10) ∷ [])))) 32 ++ cond t ((48 + n) ∷ []) (digits_within k (n / 10) ++ ((48 + n % 10) ∷ []))
        ≡ leads w (n / 10) ++ ((48 + n % 10) ∷ [])
    step true e w b f = one w (ltb-true n 10 e)
    step false e zero b f = absurd (omega (arith, ltb-false n 10 e))
    step false e (suc w) b f =
        let big = ltb-false n 10 e in
        let power = pow-succ' 10 (suc w) in
        more w (digits_within k (n / 10)) big (f w (omega arith) (omega arith))

pub column-leads : (v : ℕ) → v < 1000000 → column v ≡ leads 5 (v / 10) ++ ((48 + v % 10) ∷ [])
unfolding column
column-leads v h = digits_columns 5 (suc v) v (omega arith) h

pub leads-length : (w n : ℕ) → length (leads w n) ≡ w
leads-length zero n = refl
leads-length (suc w) n = length-append (leads w (n / 10)) (lead n ∷ []) ∙ omega (arith, leads-length w (n / 10))

-- What `column_at` says.
pub record ColumnAt (s : List ℕ) (at v : ℕ) : Type 0 where
  pub bytes : take 6 (drop at s) ≡ column v
  pub small : v < 1000000

value_there : (s : List ℕ) (at v : ℕ) → take 6 (drop at s) ≡ column v → value_at at s ≡ v
value_there s at v e = ap (value_from 0) e ∙ value-column v

pub column-is_narrow : (l : List ℕ) (v : ℕ) → take 6 l ≡ column v → v < 1000000
column-is_narrow l v e =
    let short : length (column v) ≤ 6 = omega (arith, sym (ap length e), length-take 6 l) in
    column_narrow v (ap (value_from 0) (take_all 6 (column v) short) ∙ value-column v)

pub column-found : (s : List ℕ) (at v : ℕ) → column_at s at ≡ Some v → ColumnAt s at v
unfolding column_at
column-found s at v e = step (same_bytes (take 6 (drop at s)) (column (value_at at s))) refl e
  where
    step : (t : Bool) → same_bytes (take 6 (drop at s)) (column (value_at at s)) ≡ t → column_if t (value_at at s) ≡ Some v → ColumnAt s at v
    step true d h =
        let same : value_at at s ≡ v = cc in
        let b = same_of (take 6 (drop at s)) (column (value_at at s)) d ∙ ap column same in
        record { bytes = b; small = column-is_narrow (drop at s) v b }
    step false d h = let z : ◌≡◌ {A = ℕ} 0 1 = cc in absurd (omega arith)

pub column-lacking : (s : List ℕ) (at v : ℕ) → column_at s at ≡ None → take 6 (drop at s) ≡ column v → ⊥
unfolding column_at
column-lacking s at v e b = step (same_bytes (take 6 (drop at s)) (column (value_at at s))) refl e
  where
    step : (t : Bool) → same_bytes (take 6 (drop at s)) (column (value_at at s)) ≡ t → column_if t (value_at at s) ≡ None → ⊥
    step true d h = let z : ◌≡◌ {A = ℕ} 0 1 = cc in omega arith
    step false d h = unequal_of-same (take 6 (drop at s)) (column (value_at at s)) d (b ∙ ap column (sym (value_there s at v b)))

-- When `column_at` is which.
column_if_lacking : (s : List ℕ) (at : ℕ) → (take 6 (drop at s) ≡ column (value_at at s) → ⊥) → None ≡ column_at s at
unfolding column_at
column_if_lacking s at h = ap (λ t. column_if t (value_at at s)) (sym (same-of_unequal (take 6 (drop at s)) (column (value_at at s)) h))

pub column-outside : (s : List ℕ) (at : ℕ) → length s < at + 6 → None ≡ column_at s at
column-outside s at h = column_if_lacking s at (λ e. omega (arith, ap length e, length-take 6 (drop at s), length-drop at s, column-wide (value_at at s)))

pub column_too_large : (s : List ℕ) (at : ℕ) → 1000000 ≤ value_at at s → None ≡ column_at s at
column_too_large s at h = column_if_lacking s at (λ e. omega (arith, column-is_narrow (drop at s) (value_at at s) e))

pub column-of-same : (s : List ℕ) (at v : ℕ) → v ≡ value_at at s → (t : Bool) → t ≡ same_bytes (take 6 (drop at s)) (column v) → column_if t v ≡ column_at s at
unfolding column_at
column-of-same s at v e t d = rw (d, e)

pub column-there : (s : List ℕ) (at v : ℕ) → take 6 (drop at s) ≡ column v → Some v ≡ column_at s at
column-there s at v e = column-of-same s at v (sym (value_there s at v e)) true (sym (same-to (take 6 (drop at s)) (column v) e))
