-- Laws of lines: where a line ends, and what six columns or a byte at a place say of the text from there.
use mathlib.Core.Path.{◌≡◌, refl, sym, ap, ap₂, ◌∙◌}
use mathlib.Core.Logic.{◌⊎◌, inl, inr}
use mathlib.Core.Bool.{Bool, true, false, cond}
use mathlib.Core.List.{List, [], ◌∷◌, ◌++◌}
use Prim.Native.Nat.{ℕ, suc, ◌+◌, ◌<◌, ◌≤◌}
use native.Mathlib.Decide.{dec_le}
use native.Mathlib.Omega.{arith}
use borrow.Author.Tests.{eqb-true, ne_eqb}
use lib.Dec.{eqb}
use lib.ListN.{length, get_or, take, drop, take-append-drop, length-drop, get_or-eq_default}
use lib.Seq.{drop-cons, drop-drop, take_at, drop_at, take-append-le}
use Rattle.columns.specs.Columns.{column, value_from}
use Rattle.columns.proofs.Laws.Compared.{Each}
use Rattle.columns.proofs.Laws.ColumnsRead.{ColumnAt, column-wide, column-length, column_narrow, value-column}
use Rattle.lts.specs.Reading.{Line, missing, line, longer, first_line}

abbrev pub NoEnd : ℕ → Type 0
NoEnd b = b ≡ 10 → ⊥

pub line-here : (l rest : List ℕ) → Each NoEnd l → first_line (l ++ (10 ∷ rest)) ≡ line l rest
line-here [] rest h = refl
line-here (b ∷ l) rest h = rw (ne_eqb b 10 h.0, line-here l rest h.1)

pub line_parts : (x l rest : List ℕ) → first_line x ≡ line l rest → x ≡ l ++ (10 ∷ rest)
line_parts [] l rest e = let z : ◌≡◌ {A = ℕ} 0 1 = cc in absurd (omega arith)
line_parts (b ∷ s) l rest e = step (eqb b 10) refl e (line_parts s)
  where
    more : (y : Line) → longer b y ≡ line l rest → ((m r : List ℕ) → y ≡ line m r → s ≡ m ++ (10 ∷ r)) → b ∷ s ≡ l ++ (10 ∷ rest)
    more missing d h = let z : ◌≡◌ {A = ℕ} 0 1 = cc in absurd (omega arith)
    more (line m r) d h =
        let first : l ≡ b ∷ m = cc in
        let second : rest ≡ r = cc in
        rw (first, second) (ap (λ z. b ∷ z) (h m r refl))

    step : (t : Bool) → eqb b 10 ≡ t → cond t (line [] s) (longer b (first_line s)) ≡ line l rest → ((m r : List ℕ) → first_line s ≡ line m r → s ≡ m ++ (10 ∷ r)) → b ∷ s ≡ l ++ (10 ∷ rest)
    step true d g h =
        let first : l ≡ [] = cc in
        let second : rest ≡ s = cc in
        rw (first, second) (ap (λ z. z ∷ s) (eqb-true b 10 d))
    step false d g h = more (first_line s) g h

-- A column, or a byte, and what follows.
pub drop_further : (s : List ℕ) (at i j : ℕ) → at + i ≡ j → drop i (drop at s) ≡ drop j s
drop_further s at i j e = drop-drop i at s ∙ ap (λ p. drop p s) e

pub column-front : (s : List ℕ) (at next v : ℕ) → at + 6 ≡ next → ColumnAt s at v → drop at s ≡ column v ++ drop next s
column-front s at next v e r = sym (take-append-drop 6 (drop at s)) ∙ ap₂ (λ x y. x ++ y) r.bytes (drop_further s at 6 next e)

pub column_back : (s : List ℕ) (at next v : ℕ) (m : List ℕ) → at + 6 ≡ next → v < 1000000 → drop at s ≡ column v ++ m → (take 6 (drop at s) ≡ column v) × (drop next s ≡ m)
column_back s at next v m e k d = (
  ap (take 6) d ∙ take_at (column v) m 6 (column-length v k),
  sym (drop_further s at 6 next e) ∙ ap (drop 6) d ∙ drop_at (column v) m 6 (column-length v k),
)

pub byte-within : (s : List ℕ) (at b : ℕ) → b < 256 → get_or s at 256 ≡ b → at < length s
byte-within s at b k e = step (leb-or (length s) at)
  where
    leb-or : (m n : ℕ) → (m ≤ n) ⊎ (n < m)
    leb-or m n = elim (dec_le m n) [ yes h ↦ inl h | no h ↦ inr (omega arith) ]

    step : (length s ≤ at) ⊎ (at < length s) → at < length s
    step (inl h) = absurd (omega (arith, sym (get_or-eq_default s 256 {n = at} h) ∙ e))
    step (inr h) = h

pub byte-front : (s : List ℕ) (at next b : ℕ) → at + 1 ≡ next → b < 256 → get_or s at 256 ≡ b → drop at s ≡ b ∷ drop next s
byte-front s at next b f k e =
    let next-is : suc at ≡ next = omega arith in
    drop-cons s at 256 (byte-within s at b k e) ∙ ap₂ (λ x y. x ∷ drop y s) e next-is

pub byte_back : (s : List ℕ) (at next b : ℕ) (m : List ℕ) → at + 1 ≡ next → drop at s ≡ b ∷ m → (get_or s at 256 ≡ b) × (drop next s ≡ m)
byte_back s at next b m f d =
    let some : 0 < length (drop at s) = omega (arith, ap length d) in
    let within : at < length s = omega (arith, length-drop at s) in
    let opened : get_or s at 256 ∷ drop (suc at) s ≡ b ∷ m = sym (drop-cons s at 256 within) ∙ d in
    let next-is : next ≡ suc at = omega arith in
    let rest : drop (suc at) s ≡ m = cc in
    ((cc), ap (λ p. drop p s) next-is ∙ rest)

-- What a line's own columns hold.
pub column_peeled : (l m : List ℕ) → l ≡ column (value_from 0 (take 6 l)) ++ m → (value_from 0 (take 6 l) < 1000000) × (drop 6 l ≡ m)
column_peeled l m e =
    let v = value_from 0 (take 6 l) in
    let narrow : v < 1000000 = column_narrow v (ap (value_from 0) (sym (ap (take 6) e ∙ take-append-le 6 (column v) m (column-wide v)))) in
    (narrow, ap (drop 6) e ∙ drop_at (column v) m 6 (column-length v narrow))

pub column-held : (v : ℕ) (m : List ℕ) → v < 1000000 → (value_from 0 (take 6 (column v ++ m)) ≡ v) × (drop 6 (column v ++ m) ≡ m)
column-held v m k = (ap (value_from 0) (take_at (column v) m 6 (column-length v k)) ∙ value-column v, drop_at (column v) m 6 (column-length v k))
