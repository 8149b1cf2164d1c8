-- Which six bytes are some number's columns: blanks, then digits of which the first is no 0, or 0 alone.
use mathlib.Core.Path.{◌≡◌, refl, sym, ap, ap₂, ◌∙◌, subst}
use mathlib.Core.Logic.{◌⊎◌, inl, inr}
use mathlib.Core.Bool.{Bool, true, false, cond}
use mathlib.Core.List.Memᴰ
use mathlib.Core.List.{List, [], ◌∷◌, ◌++◌, Memᴰ}
use Prim.Native.Nat.{ℕ, zero, suc, ◌+◌, ◌-◌, ◌*◌, ◌/◌, ◌%◌, ◌≤◌, ◌<◌}
use native.Mathlib.Nat.{mul-add-mod_self_right, mod-eq_of_lt, div-add-mod'}
use native.Mathlib.Omega.{arith}
use lib.Dec.{ltb}
use lib.ListN.{length, replicate, length-append, length-replicate}
use borrow.Author.Tests.{lt-ltb, le-ltb, ltb-true, ltb-false}
use Rattle.columns.specs.Columns.{digits_within, decimal, column, value_from}
use Rattle.columns.proofs.Laws.Columns.{Digit, value_append, value-blanks, column-length}

-- Digits of which the first is no 0.
abbrev pub Leading : List ℕ → Type 0
Leading [] = ⊥
Leading (h ∷ l) = ((49 ≤ h) × (h ≤ 57)) × ((b : ℕ) → Memᴰ b l → Digit b)

-- 01: "decimal, right-justified with blanks in 6 columns, without leading zeros"
pub record SixColumns (b : List ℕ) : Type 0 where
  pub blanks : ℕ
  pub digits : List ℕ
  pub six : blanks + length digits ≡ 6
  pub no-leading-zero : Leading digits ⊎ (digits ≡ 48 ∷ [])
  pub bytes : b ≡ replicate blanks 32 ++ digits

value_grows : (n : ℕ) (l : List ℕ) → n ≤ value_from n l
value_grows n [] = omega arith
value_grows n (b ∷ l) = omega (arith, value_grows (n * 10 + (b - 48)) l)

leading_positive : (d : List ℕ) → Leading d → 1 ≤ value_from 0 d
leading_positive [] g = absurd g
leading_positive (h ∷ l) g = omega (arith, value_grows (0 * 10 + (h - 48)) l, g.0.0)

leading-front : (d : List ℕ) (x : ℕ) → Leading (d ++ (x ∷ [])) → ((d ≡ []) ⊎ Leading d) × Digit x
leading-front [] x g = (inl refl, (omega (arith, g.0.0), g.0.1))
leading-front (h ∷ l) x g = (inr (g.0, λ b m. g.1 b (Memᴰ.append_left (x ∷ []) m)), g.1 x (Memᴰ.append_right l (Memᴰ.head refl)))

leading_snoc : (d : List ℕ) (x : ℕ) → Leading d → Digit x → Leading (d ++ (x ∷ []))
leading_snoc [] x g e = absurd g
leading_snoc (h ∷ l) x g e = (g.0, λ b m. step b (Memᴰ.append_cases l m))
  where
    step : (b : ℕ) → Memᴰ b l ⊎ Memᴰ b (x ∷ []) → Digit b
    step b (inl m) = g.1 b m
    step b (inr m) = subst Digit (sym (Memᴰ.eq_of_singleton m)) e

snoc_view : (h : ℕ) (l : List ℕ) → (d : List ℕ) × (x : ℕ) × (h ∷ l ≡ d ++ (x ∷ []))
snoc_view h [] = ([], h, refl)
snoc_view h (y ∷ l) = let (d, x, e) = snoc_view y l in (h ∷ d, x, ap (λ m. h ∷ m) e)

-- One digit more.
module _ (k v x : ℕ) (big : 1 ≤ v) (digit : Digit x) where
  abbrev whole : ℕ
  whole = v * 10 + (x - 48)

  last_digit : whole % 10 ≡ x - 48
  last_digit = mul-add-mod_self_right v 10 (x - 48) ∙ mod-eq_of_lt (omega (arith, digit.1))

  first_digits : whole / 10 ≡ v
  first_digits = let z : whole / 10 * 10 + whole % 10 ≡ whole = div-add-mod' whole 10 in omega (arith, last_digit)

  digits_snoc : digits_within (suc k) (v * 10 + (x - 48)) ≡ digits_within k v ++ (x ∷ [])
  unfolding digits_within
  digits_snoc =
      let byte : 48 + whole % 10 ≡ x = omega (arith, last_digit, digit.0) in
      ap (λ (t : Bool). cond t ((48 + whole) ∷ []) (digits_within k (whole / 10) ++ ((48 + whole % 10) ∷ []))) (le-ltb whole 10 (omega arith))
      ∙ ap₂ (λ (n c : ℕ). digits_within k n ++ (c ∷ [])) first_digits byte

digits_one : (k n : ℕ) → n < 10 → digits_within (suc k) n ≡ (48 + n) ∷ []
unfolding digits_within
digits_one k n h = ap (λ (t : Bool). cond t ((48 + n) ∷ []) (digits_within k (n / 10) ++ ((48 + n % 10) ∷ []))) (lt-ltb n 10 h)

-- The digits of the number that digits hold are these.
digits_again : (k : ℕ) (d : List ℕ) → Leading d → value_from 0 d < k → digits_within k (value_from 0 d) ≡ d
digits_again zero d g h = absurd (omega arith)
digits_again (suc k) [] g h = absurd g
digits_again (suc k) (y ∷ l) g h = let (d, x, e) = snoc_view y l in whole_again d x e (digits_again k d)
  where
    step : (d : List ℕ) (x : ℕ) → y ∷ l ≡ d ++ (x ∷ []) → Digit x → (Leading d → value_from 0 d < k → digits_within k (value_from 0 d) ≡ d) → (d ≡ []) ⊎ Leading d
        → digits_within (suc k) (value_from (value_from 0 d) (x ∷ [])) ≡ d ++ (x ∷ [])
    step d x e p f (inl z) =
        let small : value_from 0 d * 10 + (x - 48) ≡ x - 48 = ap (λ (m : List ℕ). value_from 0 m * 10 + (x - 48)) z ∙ omega arith in
        let byte : 48 + (x - 48) ≡ x = omega (arith, p.0) in
        ap (digits_within (suc k)) small ∙ (digits_one k (x - 48) (omega (arith, p.1)) ∙ (ap (λ (c : ℕ). c ∷ []) byte ∙ ap (λ (m : List ℕ). m ++ (x ∷ [])) (sym z)))
    step d x e p f (inr z) =
        let positive : 1 ≤ value_from 0 d = leading_positive d z in
        let value : value_from 0 (y ∷ l) ≡ value_from 0 d * 10 + (x - 48) = ap (value_from 0) e ∙ value_append 0 d (x ∷ []) in
        digits_snoc k (value_from 0 d) x positive p ∙ ap (λ (m : List ℕ). m ++ (x ∷ [])) (f z (omega arith))

    whole_again : (d : List ℕ) (x : ℕ) → y ∷ l ≡ d ++ (x ∷ []) → (Leading d → value_from 0 d < k → digits_within k (value_from 0 d) ≡ d) → digits_within (suc k) (value_from 0 (y ∷ l)) ≡ y ∷ l
    whole_again d x e f =
        let p = leading-front d x (subst Leading e g) in
        ap (digits_within (suc k)) (ap (value_from 0) e ∙ value_append 0 d (x ∷ [])) ∙ (step d x e p.1 f p.0 ∙ sym e)

-- The digits of a number: 0 alone, or no leading 0.
digits_leading : (k n : ℕ) → 1 ≤ n → n < k → Leading (digits_within k n)
unfolding digits_within
digits_leading zero n p h = absurd (omega arith)
digits_leading (suc k) n p h = step (ltb n 10) refl (digits_leading k (n / 10))
  where
    step : (t : Bool) → ltb n 10 ≡ t → (1 ≤ n / 10 → n / 10 < k → Leading (digits_within k (n / 10))) → Leading (cond t ((48 + n) ∷ []) (digits_within k (n / 10) ++ ((48 + n % 10) ∷ [])))
    step true e f = let small : n < 10 = ltb-true n 10 e in ((omega arith, omega arith), λ b m. absurd (Memᴰ.not-nil m))
    step false e f =
        let big : 10 ≤ n = ltb-false n 10 e in
        leading_snoc (digits_within k (n / 10)) (48 + n % 10) (f (omega arith) (omega arith)) (omega arith, omega arith)

pub decimal-of_digits : (d : List ℕ) → Leading d ⊎ (d ≡ 48 ∷ []) → decimal (value_from 0 d) ≡ d
decimal-of_digits d (inl g) = digits_again (suc (value_from 0 d)) d g (omega arith)
decimal-of_digits d (inr e) = ap (λ (m : List ℕ). decimal (value_from 0 m)) e ∙ (digits_one 0 0 (omega arith) ∙ sym e)

pub decimal-leading : (n : ℕ) → Leading (decimal n) ⊎ (decimal n ≡ 48 ∷ [])
decimal-leading zero = inr (digits_one 0 0 (omega arith))
decimal-leading (suc n) = inl (digits_leading (suc (suc n)) (suc n) (omega arith) (omega arith))

-- Six bytes are the columns of the number that they hold exactly if they are laid out so.
pub column-laid_out : (n : ℕ) → n < 1000000 → SixColumns (column n)
unfolding column
column-laid_out n h = record {
  blanks = 6 - length (decimal n);
  digits = decimal n;
  six = simp (length-append, length-replicate) at (column-length n h);
  no-leading-zero = decimal-leading n;
  bytes = refl;
}

pub laid_out_column : (b : List ℕ) → SixColumns b → b ≡ column (value_from 0 b)
unfolding column
laid_out_column b s =
    let value : value_from 0 b ≡ value_from 0 s.digits = ap (value_from 0) s.bytes ∙ value-blanks s.blanks s.digits in
    let same : decimal (value_from 0 b) ≡ s.digits = ap decimal value ∙ decimal-of_digits s.digits s.no-leading-zero in
    let left : 6 - length s.digits ≡ s.blanks = omega (arith, s.six) in
    s.bytes ∙ sym (ap (λ (l : List ℕ). replicate (6 - length l) 32 ++ l) same ∙ ap (λ (j : ℕ). replicate j 32 ++ s.digits) left)
