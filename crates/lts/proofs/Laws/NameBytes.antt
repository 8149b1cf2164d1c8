-- Names byte by byte: a beginning of one is one, and what one more byte makes of it.
use mathlib.Core.Path.{◌≡◌, refl, sym, ap, ap₂, ◌∙◌}
use mathlib.Core.Logic.{◌⊎◌, inl, inr}
use mathlib.Core.Bool.{Bool, true, false, true≢false, false≢true, ◌&&◌, ◌||◌}
use mathlib.Core.List.{List, [], ◌∷◌, ◌++◌, append_assoc}
use Prim.Native.Nat.{ℕ, zero, suc, ◌<◌, ◌≤◌}
use native.Mathlib.Omega.{arith}
use lib.ListN.{length}
use Rattle.lts.specs.Names.{is_lower, is_name_byte, at_most, is_name}
use Rattle.lts.specs.Marks.{unmarked, marked, is_mark, is_last_mark}
use Rattle.lts.proofs.Booleans.{and-true-of, and-true-to, or-true-of, or-true-left, or_true_right}
use Rattle.lts.proofs.Laws.Stems.{is_stem}
use Rattle.lts.proofs.Laws.NameRuns.{mark_foreign}

and-false : (a b : Bool) → b ≡ false → (a && b) ≡ false
and-false true b q = q
and-false false b q = refl

or-false : (a b : Bool) → a ≡ false → b ≡ false → (a || b) ≡ false
or-false a b p q = ap₂ (λ s t. s || t) p q

first-false : (a b : Bool) → (a || b) ≡ false → a ≡ false
first-false true b e = e
first-false false b e = refl

-- A byte with another behind it is no last one.
not_last : (c : ℕ) (p : List ℕ) (b : ℕ) (q : List ℕ) → is_last_mark marked c (p ++ (b ∷ q)) ≡ false
not_last c [] b q = refl
not_last c (d ∷ p) b q = refl

last-is-mark : (b : ℕ) (q : List ℕ) → is_last_mark marked b q ≡ true → is_mark b ≡ true
last-is-mark b [] e = e
last-is-mark b (c ∷ q) e = absurd (false≢true e)

-- A beginning of a name is a name.
at-most-more : (n : ℕ) (p : List ℕ) (b : ℕ) (q : List ℕ) → at_most marked n (p ++ (b ∷ q)) ≡ true → at_most marked n (p ++ (b ∷ [])) ≡ true
at-most-more zero [] b q e = last-is-mark b q e
at-most-more (suc n) [] b q e = case (or-true-of (is_last_mark marked b q) _ e)
  where
    case : (is_last_mark marked b q ≡ true) ⊎ ((is_name_byte b && at_most marked n q) ≡ true) → (is_mark b || (is_name_byte b && true)) ≡ true
    case (inl d) = or-true-left (is_mark b) _ (last-is-mark b q d)
    case (inr d) = or_true_right (is_mark b) _ (and-true-to (is_name_byte b) true (and-true-of (is_name_byte b) (at_most marked n q) d).0 refl)
at-most-more zero (c ∷ p) b q e = absurd (true≢false (sym e ∙ not_last c p b q))
at-most-more (suc n) (c ∷ p) b q e = case (at-most-more n p b q) (or-true-of (is_last_mark marked c (p ++ (b ∷ q))) _ e)
  where
    case : (at_most marked n (p ++ (b ∷ q)) ≡ true → at_most marked n (p ++ (b ∷ [])) ≡ true) →
        (is_last_mark marked c (p ++ (b ∷ q)) ≡ true) ⊎ ((is_name_byte c && at_most marked n (p ++ (b ∷ q))) ≡ true)
        → (is_last_mark marked c (p ++ (b ∷ [])) || (is_name_byte c && at_most marked n (p ++ (b ∷ [])))) ≡ true
    case again (inl d) = absurd (true≢false (sym d ∙ not_last c p b q))
    case again (inr d) =
        let h = and-true-of (is_name_byte c) (at_most marked n (p ++ (b ∷ q))) d in
        or_true_right (is_last_mark marked c (p ++ (b ∷ []))) _ (and-true-to (is_name_byte c) _ h.0 (again h.1))

pub name-more : (p : List ℕ) (b : ℕ) (q : List ℕ) → is_name (p ++ (b ∷ q)) ≡ true → is_name (p ++ (b ∷ [])) ≡ true
name-more [] b q e = and-true-to (is_lower b) true (and-true-of (is_lower b) (at_most marked 11 q) e).0 refl
name-more (c ∷ p) b q e = let h = and-true-of (is_lower c) (at_most marked 11 (p ++ (b ∷ q))) e in and-true-to (is_lower c) _ h.0 (at-most-more 11 p b q h.1)

-- A stem goes on.
at-most-grows : (n : ℕ) (p : List ℕ) (b : ℕ) → at_most unmarked n p ≡ true → length p < n → is_name_byte b ≡ true → at_most unmarked n (p ++ (b ∷ [])) ≡ true
at-most-grows zero p b e h i = absurd (omega arith)
at-most-grows (suc n) [] b e h i = and-true-to (is_name_byte b) true i refl
at-most-grows (suc n) (c ∷ p) b e h i = let d = and-true-of (is_name_byte c) (at_most unmarked n p) e in and-true-to (is_name_byte c) _ d.0 (at-most-grows n p b d.1 (omega arith) i)

pub stem-grows : (p : List ℕ) (b : ℕ) → is_stem p ≡ true → length p < 12 → is_name_byte b ≡ true → is_stem (p ++ (b ∷ [])) ≡ true
stem-grows [] b e h i = absurd (false≢true e)
stem-grows (c ∷ p) b e h i = let d = and-true-of (is_lower c) (at_most unmarked 11 p) e in and-true-to (is_lower c) _ d.0 (at-most-grows 11 p b d.1 (omega arith) i)

-- A name ends before a byte that is neither a name's nor a mark; before a thirteenth byte that is no mark; and behind its mark.
module _ (b : ℕ) (plain : is_mark b ≡ false) where
  module _ (foreign : is_name_byte b ≡ false) where
    at-most-ends : (n : ℕ) (p : List ℕ) → at_most marked n (p ++ (b ∷ [])) ≡ false
    at-most-ends zero [] = plain
    at-most-ends (suc n) [] = or-false (is_mark b) _ plain (ap (λ t. t && true) foreign)
    at-most-ends zero (c ∷ p) = not_last c p b []
    at-most-ends (suc n) (c ∷ p) = or-false (is_last_mark marked c (p ++ (b ∷ []))) _ (not_last c p b []) (and-false (is_name_byte c) _ (at-most-ends n p))

    pub name-ends : (p : List ℕ) → is_name (p ++ (b ∷ [])) ≡ false
    name-ends [] = ap (λ t. t && true) (first-false (is_lower b) _ foreign)
    name-ends (c ∷ p) = and-false (is_lower c) _ (at-most-ends 11 p)

  at-most-full : (n : ℕ) (p : List ℕ) → n ≤ length p → at_most marked n (p ++ (b ∷ [])) ≡ false
  at-most-full zero [] h = plain
  at-most-full (suc n) [] h = absurd (omega arith)
  at-most-full zero (c ∷ p) h = not_last c p b []
  at-most-full (suc n) (c ∷ p) h = or-false (is_last_mark marked c (p ++ (b ∷ []))) _ (not_last c p b []) (and-false (is_name_byte c) _ (at-most-full n p (omega arith)))

  pub name-full : (p : List ℕ) → 12 ≤ length p → is_name (p ++ (b ∷ [])) ≡ false
  name-full [] h = absurd (omega arith)
  name-full (c ∷ p) h = and-false (is_lower c) _ (at-most-full 11 p (omega arith))

module _ (m : ℕ) (mark : is_mark m ≡ true) (b : ℕ) where
  at-most-marked : (n : ℕ) (p : List ℕ) → at_most marked n (p ++ (m ∷ b ∷ [])) ≡ false
  at-most-marked zero [] = refl
  at-most-marked (suc n) [] = ap (λ t. t && at_most marked n (b ∷ [])) (mark_foreign m mark)
  at-most-marked zero (c ∷ p) = not_last c p m (b ∷ [])
  at-most-marked (suc n) (c ∷ p) = or-false (is_last_mark marked c (p ++ (m ∷ b ∷ []))) _ (not_last c p m (b ∷ [])) (and-false (is_name_byte c) _ (at-most-marked n p))

  pub mark-ends : (p : List ℕ) → is_name ((p ++ (m ∷ [])) ++ (b ∷ [])) ≡ false
  mark-ends p = ap is_name (append_assoc p (m ∷ []) (b ∷ [])) ∙ ended p
    where
      ended : (p : List ℕ) → is_name (p ++ (m ∷ b ∷ [])) ≡ false
      ended [] = ap (λ t. t && at_most marked 11 (b ∷ [])) (first-false (is_lower m) _ (mark_foreign m mark))
      ended (c ∷ p) = and-false (is_lower c) _ (at-most-marked 11 p)
