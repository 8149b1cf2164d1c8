-- Laws of the longest name without a mark that a text starts with, its stem: how a loop finds it, that it is a name, and which names are it.
use mathlib.Core.Path.{◌≡◌, refl, ap, ap₂, ◌∙◌}
use mathlib.Core.Logic.{◌⊎◌, inl, inr}
use mathlib.Core.Bool.{Bool, true, false, cond, false≢true, ◌&&◌, ◌||◌}
use mathlib.Core.List.{List, [], ◌∷◌, ◌++◌}
use Prim.Native.Nat.{ℕ, zero, suc, ◌+◌, ◌-◌, ◌<◌, ◌≤◌}
use native.Mathlib.Numerals.{add-one}
use native.Mathlib.Omega.{arith}
use borrow.Author.Tests.{leb-true, eqb-true}
use lib.Dec.{leb, eqb}
use lib.ListN.{length, get_or, take, drop, drop_of_length-le}
use lib.Seq.{drop-cons}
use Rattle.columns.proofs.Laws.Compared.{Each}
use Rattle.lts.specs.Names.{is_lower, is_name_byte, at_most, is_name_with}
use Rattle.lts.specs.Marks.{unmarked}
use Rattle.lts.specs.inner.NameEnds.{stem_run, stem_length, stem_end}
use Rattle.lts.proofs.Booleans.{and-true-of, or-true-of}

abbrev pub is_stem : List ℕ → Bool
is_stem l = is_name_with unmarked l

run_none : (k : ℕ) → stem_run k [] ≡ 0
run_none zero = refl
run_none (suc k) = refl

-- A run so far: n bytes from `at`.
pub record StemSoFar (s : List ℕ) (at n : ℕ) : Type 0 where
  pub some_byte : 1 ≤ n
  pub few : n ≤ 12
  pub within : at + n ≤ length s
  pub left : stem_length (drop at s) ≡ n + stem_run (12 - n) (drop (at + n) s)

module _ (s : List ℕ) (at : ℕ) where
  pub no_text : length s ≤ at → at ≡ stem_end s at
  no_text h = let none : stem_length (drop at s) ≡ 0 = ap stem_length (drop_of_length-le s h) in omega arith

  pub no_letter : at < length s → is_lower (get_or s at 0) ≡ false → at ≡ stem_end s at
  no_letter h e = let none : stem_length (drop at s) ≡ 0 = ap stem_length (drop-cons s at 0 h) ∙ rw e in omega arith

  pub run-starts : at < length s → is_lower (get_or s at 0) ≡ true → StemSoFar s at 1
  run-starts h e = record {
    some_byte = omega arith;
    few = omega arith;
    within = omega arith;
    left = ap stem_length (drop-cons s at 0 h) ∙ rw (e, add-one) one_more;
  }
    where
      one_more : suc (stem_run 11 (drop (suc at) s)) ≡ 1 + stem_run 11 (drop (suc at) s)
      one_more = omega arith

  module _ (n : ℕ) (r : StemSoFar s at n) where
    pub run-at-end : length s ≤ at + n → at + n ≡ stem_end s at
    run-at-end h =
        let none : stem_run (12 - n) (drop (at + n) s) ≡ 0 = ap (stem_run (12 - n)) (drop_of_length-le s h) ∙ run_none (12 - n) in
        omega (arith, r.left)

    pub run-full : 12 ≤ n → at + n ≡ stem_end s at
    run-full h =
        let f = r.few in
        let none : 12 - n ≡ 0 = omega arith in
        let run : stem_run (12 - n) (drop (at + n) s) ≡ 0 = ap (λ k. stem_run k (drop (at + n) s)) none in
        omega (arith, r.left)

    -- One byte further.
    run_opened : n < 12 → at + n < length s → stem_run (12 - n) (drop (at + n) s) ≡ cond (is_name_byte (get_or s (at + n) 0)) (suc (stem_run (12 - (n + 1)) (drop (suc (at + n)) s))) 0
    run_opened h k =
        let left : 12 - n ≡ suc (12 - (n + 1)) = omega arith in
        ap₂ stem_run left (drop-cons s (at + n) 0 k)

    pub run-stops : n < 12 → at + n < length s → is_name_byte (get_or s (at + n) 0) ≡ false → at + n ≡ stem_end s at
    run-stops h k e =
        let none : stem_run (12 - n) (drop (at + n) s) ≡ 0 = run_opened h k ∙ ap (λ t. cond t (suc (stem_run (12 - (n + 1)) (drop (suc (at + n)) s))) 0) e in
        omega (arith, r.left)

    pub run_goes_on : n < 12 → at + n < length s → is_name_byte (get_or s (at + n) 0) ≡ true → StemSoFar s at (n + 1)
    run_goes_on h k e =
        let more : stem_run (12 - n) (drop (at + n) s) ≡ suc (stem_run (12 - (n + 1)) (drop (suc (at + n)) s)) =
        run_opened h k ∙ ap (λ t. cond t (suc (stem_run (12 - (n + 1)) (drop (suc (at + n)) s))) 0) e in
        let place : suc (at + n) ≡ at + (n + 1) = omega arith in
        let moved : stem_run (12 - (n + 1)) (drop (suc (at + n)) s) ≡ stem_run (12 - (n + 1)) (drop (at + (n + 1)) s) = ap (λ p. stem_run (12 - (n + 1)) (drop p s)) place in
        record {
          some_byte = omega arith;
          few = omega arith;
          within = omega arith;
          left = omega (arith, r.left);
        }

-- The bytes of a name are above LF and blank.
lower_high : (b : ℕ) → is_lower b ≡ true → 48 ≤ b
lower_high b e = omega (arith, leb-true 97 b (and-true-of (leb 97 b) (leb b 122) e).0)

name-byte-high : (b : ℕ) → is_name_byte b ≡ true → 48 ≤ b
name-byte-high b e = step (or-true-of (is_lower b) (eqb b 95 || (leb 48 b && leb b 57)) e)
  where
    rest : (eqb b 95 ≡ true) ⊎ ((leb 48 b && leb b 57) ≡ true) → 48 ≤ b
    rest (inl d) = omega (arith, eqb-true b 95 d)
    rest (inr d) = leb-true 48 b (and-true-of (leb 48 b) (leb b 57) d).0

    step : (is_lower b ≡ true) ⊎ ((eqb b 95 || (leb 48 b && leb b 57)) ≡ true) → 48 ≤ b
    step (inl d) = lower_high b d
    step (inr d) = rest (or-true-of (eqb b 95) (leb 48 b && leb b 57) d)

abbrev pub High : ℕ → Type 0
High b = 48 ≤ b

at-most-high : (n : ℕ) (l : List ℕ) → at_most unmarked n l ≡ true → Each High l
at-most-high n [] e = tt
at-most-high zero (b ∷ l) e = absurd (false≢true e)
at-most-high (suc n) (b ∷ l) e = let d = and-true-of (is_name_byte b) (at_most unmarked n l) e in (name-byte-high b d.0, at-most-high n l d.1)

pub stem-high : (l : List ℕ) → is_stem l ≡ true → Each High l
stem-high [] e = tt
stem-high (b ∷ l) e = let d = and-true-of (is_lower b) (at_most unmarked 11 l) e in (lower_high b d.0, at-most-high 11 l d.1)

at-most-length : (n : ℕ) (l : List ℕ) → at_most unmarked n l ≡ true → length l ≤ n
at-most-length n [] e = omega arith
at-most-length zero (b ∷ l) e = absurd (false≢true e)
at-most-length (suc n) (b ∷ l) e = let d = at-most-length n l (and-true-of (is_name_byte b) (at_most unmarked n l) e).1 in omega arith

pub stem-short : (l : List ℕ) → is_stem l ≡ true → (0 < length l) × (length l ≤ 12)
stem-short [] e = absurd (false≢true e)
stem-short (b ∷ l) e = let d = at-most-length 11 l (and-true-of (is_lower b) (at_most unmarked 11 l) e).1 in (omega arith, omega arith)

-- A run of name bytes is a name.
run-at-most : (n : ℕ) (s : List ℕ) → (stem_run n s ≤ length s) × (at_most unmarked n (take (stem_run n s) s) ≡ true)
run-at-most zero s = (omega arith, refl)
run-at-most (suc n) [] = (omega arith, refl)
run-at-most (suc n) (b ∷ s) = step (is_name_byte b) refl (run-at-most n s)
  where
    step : (t : Bool) → is_name_byte b ≡ t → (stem_run n s ≤ length s) × (at_most unmarked n (take (stem_run n s) s) ≡ true)
        → (cond t (suc (stem_run n s)) 0 ≤ suc (length s)) × (at_most unmarked (suc n) (take (cond t (suc (stem_run n s)) 0) (b ∷ s)) ≡ true)
    step true e h = (omega arith, rw e h.1)
    step false e h = (omega arith, refl)

pub stem-is-name : (s : List ℕ) → 0 < stem_length s → (stem_length s ≤ length s) × (is_stem (take (stem_length s) s) ≡ true)
stem-is-name [] h = absurd (omega arith)
stem-is-name (b ∷ s) h = step (is_lower b) refl h (run-at-most 11 s)
  where
    step : (t : Bool) → is_lower b ≡ t → 0 < cond t (suc (stem_run 11 s)) 0 → (stem_run 11 s ≤ length s) × (at_most unmarked 11 (take (stem_run 11 s) s) ≡ true)
        → (cond t (suc (stem_run 11 s)) 0 ≤ suc (length s)) × (is_stem (take (cond t (suc (stem_run 11 s)) 0) (b ∷ s)) ≡ true)
    step true e k h = (omega arith, rw e h.1)
    step false e k h = absurd (omega arith)

-- No name that the text starts with is longer.
at-most-longest : (n : ℕ) (l rest : List ℕ) → at_most unmarked n l ≡ true → length l ≤ stem_run n (l ++ rest)
at-most-longest n [] rest e = omega arith
at-most-longest zero (b ∷ l) rest e = absurd (false≢true e)
at-most-longest (suc n) (b ∷ l) rest e =
    let d = and-true-of (is_name_byte b) (at_most unmarked n l) e in
    let h = at-most-longest n l rest d.1 in
    rw d.0 (omega arith)

pub stem-is-longest : (l rest : List ℕ) → is_stem l ≡ true → length l ≤ stem_length (l ++ rest)
stem-is-longest [] rest e = absurd (false≢true e)
stem-is-longest (b ∷ l) rest e =
    let d = and-true-of (is_lower b) (at_most unmarked 11 l) e in
    let h = at-most-longest 11 l rest d.1 in
    rw d.0 (omega arith)

-- A name with a byte behind it that no name has is the longest one there.
module _ (stop : ℕ) (rest : List ℕ) (foreign : is_name_byte stop ≡ false) where
  at-most-run : (n : ℕ) (l : List ℕ) → at_most unmarked n l ≡ true → stem_run n (l ++ (stop ∷ rest)) ≡ length l
  at-most-run zero [] e = refl
  at-most-run (suc n) [] e = ap (λ t. cond t (suc (stem_run n rest)) 0) foreign
  at-most-run zero (b ∷ l) e = absurd (false≢true e)
  at-most-run (suc n) (b ∷ l) e = let d = and-true-of (is_name_byte b) (at_most unmarked n l) e in rw d.0 (ap suc (at-most-run n l d.1))

  pub stem-is-run : (l : List ℕ) → is_stem l ≡ true → stem_length (l ++ (stop ∷ rest)) ≡ length l
  stem-is-run [] e = absurd (false≢true e)
  stem-is-run (b ∷ l) e = let d = and-true-of (is_lower b) (at_most unmarked 11 l) e in rw d.0 (ap suc (at-most-run 11 l d.1))
