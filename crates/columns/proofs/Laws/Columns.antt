-- Laws of numbers in six columns: length, bytes, and the number that they hold.
use mathlib.Core.Path.{◌≡◌, refl, sym, ap, ◌∙◌}
use mathlib.Core.Bool.{Bool, true, false, cond}
use mathlib.Core.List.Memᴰ
use mathlib.Core.List.{List, [], ◌∷◌, ◌++◌, Memᴰ}
use mathlib.Core.Logic.{◌⊎◌, inl, inr}
use Prim.Native.Nat.{ℕ, zero, suc, ◌+◌, ◌-◌, ◌*◌, ◌/◌, ◌%◌, ◌^◌, ◌≤◌, ◌<◌}
use native.Mathlib.Nat.{pow-suc}
use native.Mathlib.Omega.{arith}
use lib.Dec.{ltb}
use lib.ListN.{length, replicate, take, length-append, length-replicate}
use lib.Seq.{take_all, take_at, drop-append-add}
use borrow.Author.Tests.{ltb-true, ltb-false}
use Rattle.columns.specs.Columns.{digits_within, decimal, column, value_from, value_at}
use Rattle.columns.proofs.Laws.Bytes.{replicate_mem}

-- A digit's byte.
abbrev pub Digit : ℕ → Type 0
Digit b = (48 ≤ b) × (b ≤ 57)

pub value_append : (n : ℕ) (l m : List ℕ) → value_from n (l ++ m) ≡ value_from (value_from n l) m
value_append n [] m = refl
value_append n (b ∷ l) m = value_append (n * 10 + (b - 48)) l m

pub value-blanks : (k : ℕ) (l : List ℕ) → value_from 0 (replicate k 32 ++ l) ≡ value_from 0 l
value-blanks zero l = refl
value-blanks (suc k) l = value-blanks k l

-- The digits of n hold n, if there is room for them all.
digits_value : (k n : ℕ) → n < k → value_from 0 (digits_within k n) ≡ n
unfolding digits_within
digits_value zero n h = absurd (omega arith)
digits_value (suc k) n h = step (ltb n 10) refl (digits_value k (n / 10))
  where
    step : (b : Bool) → ltb n 10 ≡ b → (n / 10 < k → value_from 0 (digits_within k (n / 10)) ≡ n / 10)
        → value_from 0 (cond b ((48 + n) ∷ []) (digits_within k (n / 10) ++ ((48 + n % 10) ∷ []))) ≡ n
    step true e f = let z : 0 * 10 + (48 + n - 48) ≡ n = omega arith in z
    step false e f =
        let big : 10 ≤ n = ltb-false n 10 e in
        value_append 0 (digits_within k (n / 10)) ((48 + n % 10) ∷ []) ∙ rw (f (omega arith)) (omega arith)

-- A number below 10 ^ j has at most j digits.
digits_short : (j k n : ℕ) → n < 10 ^ suc j → length (digits_within k n) ≤ suc j
unfolding digits_within
digits_short j zero n h = omega arith
digits_short zero (suc k) n h = step (ltb n 10) refl
  where
    step : (b : Bool) → ltb n 10 ≡ b → length (cond b ((48 + n) ∷ []) (digits_within k (n / 10) ++ ((48 + n % 10) ∷ []))) ≤ 1
    step true e = omega arith
    step false e = absurd (omega (arith, ltb-false n 10 e))
digits_short (suc j) (suc k) n h = step (ltb n 10) (digits_short j k (n / 10) (omega (arith, pow-suc 10 (suc j))))
  where
    step : (b : Bool) → length (digits_within k (n / 10)) ≤ suc j
        → length (cond b ((48 + n) ∷ []) (digits_within k (n / 10) ++ ((48 + n % 10) ∷ []))) ≤ suc (suc j)
    step true f = omega arith
    step false f = omega (arith, length-append (digits_within k (n / 10)) ((48 + n % 10) ∷ []))

digits_are : (k n : ℕ) (b : ℕ) → Memᴰ b (digits_within k n) → Digit b
unfolding digits_within
digits_are zero n b m = absurd (Memᴰ.not-nil m)
digits_are (suc k) n b m = step (ltb n 10) refl (digits_are k (n / 10) b) m
  where
    single : (d : ℕ) → d < 10 → Memᴰ b ((48 + d) ∷ []) → Digit b
    single d l z = let e = Memᴰ.eq_of_singleton z in (omega arith, omega arith)

    step : (t : Bool) → ltb n 10 ≡ t → (Memᴰ b (digits_within k (n / 10)) → Digit b)
        → Memᴰ b (cond t ((48 + n) ∷ []) (digits_within k (n / 10) ++ ((48 + n % 10) ∷ []))) → Digit b
    step true e f z = single n (ltb-true n 10 e) z
    step false e f z = both (Memᴰ.append_cases (digits_within k (n / 10)) z)
      where
        both : Memᴰ b (digits_within k (n / 10)) ⊎ Memᴰ b ((48 + n % 10) ∷ []) → Digit b
        both (inl d) = f d
        both (inr d) = single (n % 10) (omega arith) d

pub value-column : (n : ℕ) → value_from 0 (column n) ≡ n
unfolding column
value-column n = value-blanks (6 - length (decimal n)) (decimal n) ∙ digits_value (suc n) n (omega arith)

pub column-length : (n : ℕ) → n < 1000000 → length (column n) ≡ 6
unfolding column
column-length n h = simp (length-append, length-replicate) (omega (arith, digits_short 5 (suc n) n h))

-- Six columns are blanks and digits.
pub column-are : (n b : ℕ) → Memᴰ b (column n) → (b ≡ 32) ⊎ Digit b
unfolding column
column-are n b m = both (Memᴰ.append_cases (replicate (6 - length (decimal n)) 32) m)
  where
    both : Memᴰ b (replicate (6 - length (decimal n)) 32) ⊎ Memᴰ b (decimal n) → (b ≡ 32) ⊎ Digit b
    both (inl d) = inl (replicate_mem (6 - length (decimal n)) 32 d)
    both (inr d) = inr (digits_are (suc n) n b d)

-- Columns that differ hold different numbers.
pub column_unique : (m n : ℕ) → column m ≡ column n → m ≡ n
column_unique m n e = sym (value-column m) ∙ (ap (value_from 0) e ∙ value-column n)

-- A column in a line.
pub value-here : (n : ℕ) (r : List ℕ) → n < 1000000 → value_at 0 (column n ++ r) ≡ n
value-here n r h = ap (value_from 0) (take_at (column n) r 6 (column-length n h)) ∙ value-column n

pub value-last : (n : ℕ) → n < 1000000 → value_at 0 (column n) ≡ n
value-last n h = ap (value_from 0) (take_all 6 (column n) (omega (arith, column-length n h))) ∙ value-column n

pub value-past : (i n : ℕ) (r : List ℕ) → n < 1000000 → value_at (6 + i) (column n ++ r) ≡ value_at i r
value-past i n r h =
    ap (λ (l : List ℕ). value_from 0 (take 6 l)) (rw (column-length n h) at (drop-append-add (column n) r i))
