-- Columns one behind the other: where each of them stands, and its six bytes.
use mathlib.Core.Path.{◌≡◌, refl, sym, ap, ◌∙◌}
use mathlib.Core.Bool.{Bool, true, false}
use mathlib.Core.List.{List, [], ◌∷◌, ◌++◌, append_assoc}
use Prim.Native.Nat.{ℕ, zero, suc, ◌+◌, ◌*◌, ◌≤◌, ◌<◌}
use native.Mathlib.Numerals.{add-one}
use native.Mathlib.Omega.{arith}
use lib.Dec.{ltb}
use lib.ListN.{length, get_or, take, drop, length-append}
use lib.Seq.{drop-cons, drop_at, take_at}
use borrow.Author.Tests.{ltb-true, ltb-false}
use Rattle.columns.specs.Columns.{column}
use Rattle.columns.specs.inner.Kept.{ColumnsKept}
use Rattle.columns.specs.inner.Write.{pasted}
use Rattle.columns.proofs.Laws.Columns.{column-length}
use Rattle.columns.proofs.Laws.Pasting.{Pasting, pasting_more, pasting_length}

-- The columns of the numbers below k.
abbrev pub columns_below : ℕ → List ℕ
columns_below zero = []
columns_below (suc k) = columns_below k ++ column k

below_length : (k : ℕ) → k ≤ 10000 → length (columns_below k) ≡ k * 6
below_length zero h = omega arith
below_length (suc k) h = length-append (columns_below k) (column k) ∙ omega (arith, below_length k (omega arith), column-length k (omega arith))

below-there : (k n : ℕ) (rest : List ℕ) → k ≤ 10000 → n < k → take 6 (drop (n * 6) (columns_below k ++ rest)) ≡ column n
below-there zero n rest l h = absurd (omega arith)
below-there (suc k) n rest l h =
    ap (λ m. take 6 (drop (n * 6) m)) (append_assoc (columns_below k) (column k) rest) ∙ case (ltb n k) refl (below-there k n (column k ++ rest) (omega arith))
  where
    case : (b : Bool) → ltb n k ≡ b → (n < k → take 6 (drop (n * 6) (columns_below k ++ (column k ++ rest))) ≡ column n)
        → take 6 (drop (n * 6) (columns_below k ++ (column k ++ rest))) ≡ column n
    case true e f = f (ltb-true n k e)
    case false e f =
        let same : k ≡ n = omega (arith, ltb-false n k e) in
        let place : length (columns_below k) ≡ n * 6 = omega (arith, below_length k (omega arith)) in
        ap (take 6) (drop_at (columns_below k) (column k ++ rest) (n * 6) place) ∙ take_at (column k) rest 6 (column-length k (omega arith)) ∙ ap column same

-- The first k are kept.
abbrev pub KeptBelow : List ℕ → ℕ → List ℕ → Type 0
KeptBelow e k x = Pasting e 0 (columns_below k) x (k * 6)

pub kept_more : (e : List ℕ) (k : ℕ) (x y : List ℕ) → KeptBelow e k x → k < 10000 → y ≡ pasted x (k * 6) (column k) → k * 6 + 6 ≤ length e → KeptBelow e (k + 1) y
kept_more e k x y p few is room =
    let next : (k + 1) * 6 ≡ k * 6 + length (column k) = omega (arith, column-length k (omega arith)) in
    let q = pasting_more p (column k) y ((k + 1) * 6) is next (omega arith) in
    record { is = q.is ∙ ap (λ j. pasted e 0 (columns_below j)) (sym (add-one k)); ends = q.ends ∙ ap (λ j. 0 + length (columns_below j)) (sym (add-one k)); fits = q.fits }

pub kept-all : (e : List ℕ) (k : ℕ) (x : List ℕ) → KeptBelow e k x → k ≤ 10000 → ColumnsKept k x
kept-all e k x p few n h = record {
  there = omega (arith, p.fits, pasting_length p);
  is = ap (λ m. take 6 (drop (n * 6) m)) p.is ∙ below-there k n (drop (0 + length (columns_below k)) e) few h;
}

-- Six bytes of a list.
pub six_bytes : (l : List ℕ) (i : ℕ) → i + 6 ≤ length l
    → take 6 (drop i l) ≡ get_or l i 0 ∷ get_or l (i + 1) 0 ∷ get_or l (i + 2) 0 ∷ get_or l (i + 3) 0 ∷ get_or l (i + 4) 0 ∷ get_or l (i + 5) 0 ∷ []
six_bytes l i h =
    let second : i + 1 ≡ suc i = omega arith in
    let third : i + 2 ≡ suc (suc i) = omega arith in
    let fourth : i + 3 ≡ suc (suc (suc i)) = omega arith in
    let fifth : i + 4 ≡ suc (suc (suc (suc i))) = omega arith in
    let sixth : i + 5 ≡ suc (suc (suc (suc (suc i)))) = omega arith in
    rw (second, third, fourth, fifth, sixth)
    (ap (take 6) (drop-cons l i 0 (omega arith))
    ∙ ap (λ m. get_or l i 0 ∷ take 5 m) (drop-cons l (suc i) 0 (omega arith))
    ∙ ap (λ m. get_or l i 0 ∷ get_or l (suc i) 0 ∷ take 4 m) (drop-cons l (suc (suc i)) 0 (omega arith))
    ∙ ap (λ m. get_or l i 0 ∷ get_or l (suc i) 0 ∷ get_or l (suc (suc i)) 0 ∷ take 3 m) (drop-cons l (suc (suc (suc i))) 0 (omega arith))
    ∙ ap (λ m. get_or l i 0 ∷ get_or l (suc i) 0 ∷ get_or l (suc (suc i)) 0 ∷ get_or l (suc (suc (suc i))) 0 ∷ take 2 m) (drop-cons l (suc (suc (suc (suc i)))) 0 (omega arith))
    ∙ ap (λ m. get_or l i 0 ∷ get_or l (suc i) 0 ∷ get_or l (suc (suc i)) 0 ∷ get_or l (suc (suc (suc i))) 0 ∷ get_or l (suc (suc (suc (suc i)))) 0 ∷ take 1 m)
    (drop-cons l (suc (suc (suc (suc (suc i))))) 0 (omega arith)))
