-- Laws of names and their marks: a name is a stem with or without a mark, and which names are the longest at a place.
use mathlib.Core.Path.{◌≡◌, refl, sym, ap, ap₂, ◌∙◌, subst}
use mathlib.Core.Logic.{◌⊎◌, inl, inr}
use mathlib.Core.Bool.{Bool, true, false, cond, false≢true, ◌&&◌, ◌||◌}
use mathlib.Core.List.{List, [], ◌∷◌, ◌++◌, append_assoc, append-nil}
use Prim.Native.Nat.{ℕ, zero, suc, ◌+◌, ◌<◌, ◌≤◌}
use native.Mathlib.Omega.{arith}
use borrow.Author.Tests.{eqb-true, ne_eqb}
use lib.Dec.{eqb}
use lib.ListN.{length, get_or, take, drop, length-append, length-drop, drop_of_length-le}
use lib.Seq.{drop_at, drop-cons, take-add}
use Rattle.columns.proofs.Laws.Compared.{Each, each_append, each_weaken}
use Rattle.lts.specs.Names.{is_lower, is_name_byte, at_most, is_name}
use Rattle.lts.specs.Marks.{unmarked, marked, is_mark, is_last_mark}
use Rattle.lts.specs.inner.NameEnds.{stem_length, mark_length, with_mark, name_length}
use Rattle.lts.proofs.Booleans.{and-true-of, and-true-to, or-true-of, or-true-left, or_true_right}
use Rattle.lts.proofs.Laws.Stems.{is_stem, stem-high, stem-short, stem-is-name, stem-is-longest, stem-is-run}

-- No byte of a name without marks is a mark.
pub mark_cases : (b : ℕ) → is_mark b ≡ true → (b ≡ 63) ⊎ (b ≡ 33)
mark_cases b e = case (or-true-of (eqb b 63) (eqb b 33) e)
  where
    case : (eqb b 63 ≡ true) ⊎ (eqb b 33 ≡ true) → (b ≡ 63) ⊎ (b ≡ 33)
    case (inl d) = inl (eqb-true b 63 d)
    case (inr d) = inr (eqb-true b 33 d)

pub mark_foreign : (b : ℕ) → is_mark b ≡ true → is_name_byte b ≡ false
mark_foreign b e = case (mark_cases b e)
  where
    case : (b ≡ 63) ⊎ (b ≡ 33) → is_name_byte b ≡ false
    case (inl d) = ap is_name_byte d
    case (inr d) = ap is_name_byte d

-- A name is a stem, or a stem and a mark.
pub record MarkedBy (P : List ℕ → Type 0) (l : List ℕ) : Type 0 where
  pub stem : List ℕ
  pub mark : ℕ
  pub is-stem : P stem
  pub is-mark : is_mark mark ≡ true
  pub parts : l ≡ stem ++ (mark ∷ [])

abbrev pub AtMost : ℕ → List ℕ → Type 0
AtMost n p = at_most unmarked n p ≡ true

at-most_parts : (n : ℕ) (l : List ℕ) → at_most marked n l ≡ true → AtMost n l ⊎ MarkedBy (AtMost n) l
at-most_parts n [] e = inl refl
at-most_parts zero (b ∷ []) e = inr (record { stem = []; mark = b; is-stem = refl; is-mark = e; parts = refl })
at-most_parts zero (b ∷ c ∷ l) e = absurd (false≢true e)
at-most_parts (suc n) (b ∷ l) e = case (at-most_parts n l) (or-true-of (is_last_mark marked b l) (is_name_byte b && at_most marked n l) e)
  where
    last : (l : List ℕ) → is_last_mark marked b l ≡ true → MarkedBy (AtMost (suc n)) (b ∷ l)
    last [] d = record { stem = []; mark = b; is-stem = refl; is-mark = d; parts = refl }
    last (c ∷ l) d = absurd (false≢true d)

    longer : is_name_byte b ≡ true → AtMost n l ⊎ MarkedBy (AtMost n) l → AtMost (suc n) (b ∷ l) ⊎ MarkedBy (AtMost (suc n)) (b ∷ l)
    longer d (inl h) = inl (and-true-to (is_name_byte b) (at_most unmarked n l) d h)
    longer d (inr h) = inr (record {
      stem = b ∷ h.stem;
      mark = h.mark;
      is-stem = and-true-to (is_name_byte b) (at_most unmarked n h.stem) d h.is-stem;
      is-mark =
          h.is-mark;
      parts = ap (λ t. b ∷ t) h.parts;
    })

    case : (at_most marked n l ≡ true → AtMost n l ⊎ MarkedBy (AtMost n) l) → (is_last_mark marked b l ≡ true) ⊎ ((is_name_byte b && at_most marked n l) ≡ true)
        → AtMost (suc n) (b ∷ l) ⊎ MarkedBy (AtMost (suc n)) (b ∷ l)
    case again (inl d) = inr (last l d)
    case again (inr d) = let p = and-true-of (is_name_byte b) (at_most marked n l) d in longer p.0 (again p.1)

abbrev pub IsStem : List ℕ → Type 0
IsStem l = is_stem l ≡ true

pub name_parts : (l : List ℕ) → is_name l ≡ true → IsStem l ⊎ MarkedBy IsStem l
name_parts [] e = absurd (false≢true e)
name_parts (b ∷ l) e = let p = and-true-of (is_lower b) (at_most marked 11 l) e in join p.0 (at-most_parts 11 l p.1)
  where
    join : is_lower b ≡ true → AtMost 11 l ⊎ MarkedBy (AtMost 11) l → IsStem (b ∷ l) ⊎ MarkedBy IsStem (b ∷ l)
    join d (inl h) = inl (and-true-to (is_lower b) (at_most unmarked 11 l) d h)
    join d (inr h) = inr (record {
      stem = b ∷ h.stem;
      mark = h.mark;
      is-stem = and-true-to (is_lower b) (at_most unmarked 11 h.stem) d h.is-stem;
      is-mark =
          h.is-mark;
      parts = ap (λ t. b ∷ t) h.parts;
    })

-- And both are names.
at-most-marked : (n : ℕ) (l : List ℕ) (m : ℕ) → is_mark m ≡ true → AtMost n l → at_most marked n (l ++ (m ∷ [])) ≡ true
at-most-marked zero [] m h e = h
at-most-marked (suc n) [] m h e = or-true-left (is_mark m) _ h
at-most-marked zero (b ∷ l) m h e = absurd (false≢true e)
at-most-marked (suc n) (b ∷ l) m h e =
    let p = and-true-of (is_name_byte b) (at_most unmarked n l) e in
    or_true_right (is_last_mark marked b (l ++ (m ∷ []))) _ (and-true-to (is_name_byte b) (at_most marked n (l ++ (m ∷ []))) p.0 (at-most-marked n l m h p.1))

at-most_unmarked : (n : ℕ) (l : List ℕ) → AtMost n l → at_most marked n l ≡ true
at-most_unmarked n [] e = refl
at-most_unmarked zero (b ∷ l) e = absurd (false≢true e)
at-most_unmarked (suc n) (b ∷ l) e =
    let p = and-true-of (is_name_byte b) (at_most unmarked n l) e in
    or_true_right (is_last_mark marked b l) _ (and-true-to (is_name_byte b) (at_most marked n l) p.0 (at-most_unmarked n l p.1))

pub stem-marked : (l : List ℕ) (m : ℕ) → is_mark m ≡ true → IsStem l → is_name (l ++ (m ∷ [])) ≡ true
stem-marked [] m h e = absurd (false≢true e)
stem-marked (b ∷ l) m h e = let p = and-true-of (is_lower b) (at_most unmarked 11 l) e in and-true-to (is_lower b) (at_most marked 11 (l ++ (m ∷ []))) p.0 (at-most-marked 11 l m h p.1)

pub stem-named : (l : List ℕ) → IsStem l → is_name l ≡ true
stem-named [] e = absurd (false≢true e)
stem-named (b ∷ l) e = let p = and-true-of (is_lower b) (at_most unmarked 11 l) e in and-true-to (is_lower b) (at_most marked 11 l) p.0 (at-most_unmarked 11 l p.1)

-- The bytes of a name are above LF and blank.
abbrev pub High : ℕ → Type 0
High b = 33 ≤ b

mark-high : (b : ℕ) → is_mark b ≡ true → High b
mark-high b e = case (mark_cases b e)
  where
    case : (b ≡ 63) ⊎ (b ≡ 33) → 33 ≤ b
    case (inl d) = omega arith
    case (inr d) = omega arith

pub name-high : (l : List ℕ) → is_name l ≡ true → Each High l
name-high l e = case (name_parts l e)
  where
    stem-bytes : (p : List ℕ) → IsStem p → Each High p
    stem-bytes p h = each_weaken _ High (λ b k. omega arith) p (stem-high p h)

    case : IsStem l ⊎ MarkedBy IsStem l → Each High l
    case (inl h) = stem-bytes l h
    case (inr h) = subst (Each High) (sym h.parts) (each_append High h.stem (h.mark ∷ []) (stem-bytes h.stem h.is-stem) (mark-high h.mark h.is-mark, tt))

pub name-short : (l : List ℕ) → is_name l ≡ true → (0 < length l) × (length l ≤ 13)
name-short l e = case (name_parts l e)
  where
    case : IsStem l ⊎ MarkedBy IsStem l → (0 < length l) × (length l ≤ 13)
    case (inl h) = let s = stem-short l h in (s.0, omega (arith, s.1))
    case (inr h) = let n = ap length h.parts ∙ length-append h.stem (h.mark ∷ []) in let s = stem-short h.stem h.is-stem in (omega (arith, n), omega (arith, n, s.1))

-- The longest name of a text is its stem, and the mark that stands behind that.
pub length_split : (s : List ℕ) → 0 < stem_length s → name_length s ≡ stem_length s + mark_length (drop (stem_length s) s)
length_split s h = split (stem_length s) h
  where
    split : (n : ℕ) → 0 < n → with_mark n s ≡ n + mark_length (drop n s)
    split zero h = absurd (omega arith)
    split (suc n) h = refl

pub name_split : (s : List ℕ) → 0 < stem_length s → take (name_length s) s ≡ take (stem_length s) s ++ take (mark_length (drop (stem_length s) s)) (drop (stem_length s) s)
name_split s h = ap (λ n. take n s) (length_split s h) ∙ take-add (stem_length s) (mark_length (drop (stem_length s) s)) s

pub stem-below : (s : List ℕ) → stem_length s ≤ name_length s
stem-below s = below (stem_length s)
  where
    below : (n : ℕ) → n ≤ with_mark n s
    below zero = omega arith
    below (suc n) = omega arith

-- What readers take for a name is one.
marked-run : (p r : List ℕ) → IsStem p → (mark_length r ≤ length r) × (is_name (p ++ take (mark_length r) r) ≡ true)
marked-run p [] h = (omega arith, ap is_name (append-nil p) ∙ stem-named p h)
marked-run p (b ∷ r) h = case (is_mark b) refl
  where
    case : (t : Bool) → is_mark b ≡ t → (cond t 1 0 ≤ suc (length r)) × (is_name (p ++ take (cond t 1 0) (b ∷ r)) ≡ true)
    case true e = (omega arith, stem-marked p b e h)
    case false e = (omega arith, ap is_name (append-nil p) ∙ stem-named p h)

pub run-is-name : (s : List ℕ) → 0 < name_length s → (name_length s ≤ length s) × (is_name (take (name_length s) s) ≡ true)
run-is-name s h = case (stem_length s) refl
  where
    named : 0 < stem_length s → (name_length s ≤ length s) × (is_name (take (name_length s) s) ≡ true)
    named k =
        let stem = stem-is-name s k in
        let m = marked-run (take (stem_length s) s) (drop (stem_length s) s) stem.1 in
        (omega (arith, length_split s k, stem.0, m.0, length-drop (stem_length s) s), ap is_name (name_split s k) ∙ m.1)

    case : (n : ℕ) → stem_length s ≡ n → (name_length s ≤ length s) × (is_name (take (name_length s) s) ≡ true)
    case zero e = let none : name_length s ≡ 0 = ap (λ n. with_mark n s) e in absurd (omega arith)
    case (suc n) e = named (omega arith)

-- A stem with a byte behind it that no stem has.
module _ (p : List ℕ) (b : ℕ) (r : List ℕ) (stem : IsStem p) (foreign : is_name_byte b ≡ false) where
  abbrev text : List ℕ
  text = p ++ (b ∷ r)

  first : stem_length (p ++ (b ∷ r)) ≡ length p
  first = stem-is-run b r foreign p stem

  behind : drop (stem_length (p ++ (b ∷ r))) (p ++ (b ∷ r)) ≡ b ∷ r
  behind = drop_at p (b ∷ r) (stem_length text) (sym first)

  pub stem-then : name_length (p ++ (b ∷ r)) ≡ length p + cond (is_mark b) 1 0
  stem-then = length_split text (omega (arith, first, (stem-short p stem).0)) ∙ ap₂ (λ n l. n + mark_length l) first behind

-- A name with a byte behind it that ends it is the longest one there; and no name that a text starts with is longer.
marked-length : (l rest : List ℕ) (h : MarkedBy IsStem l) → name_length (l ++ rest) ≡ length l
marked-length l rest h =
    let m = h.mark in
    let text : l ++ rest ≡ h.stem ++ (m ∷ rest) = ap (λ x. x ++ rest) h.parts ∙ append_assoc h.stem (m ∷ []) rest in
    let long : length l ≡ length h.stem + 1 = ap length h.parts ∙ length-append h.stem (m ∷ []) in
    ap name_length text ∙ (stem-then h.stem m rest h.is-stem (mark_foreign m h.is-mark) ∙ (ap (λ t. length h.stem + cond t 1 0) h.is-mark ∙ sym long))

pub name-is-run : (stop : ℕ) (rest : List ℕ) → is_name_byte stop ≡ false → is_mark stop ≡ false → (l : List ℕ) → is_name l ≡ true → name_length (l ++ (stop ∷ rest)) ≡ length l
name-is-run stop rest foreign plain l e = case (name_parts l e)
  where
    case : IsStem l ⊎ MarkedBy IsStem l → name_length (l ++ (stop ∷ rest)) ≡ length l
    case (inl h) = stem-then l stop rest h foreign ∙ (ap (λ t. length l + cond t 1 0) plain ∙ omega arith)
    case (inr h) = marked-length l (stop ∷ rest) h

pub run-is-longest : (l rest : List ℕ) → is_name l ≡ true → length l ≤ name_length (l ++ rest)
run-is-longest l rest e = case (name_parts l e)
  where
    case : IsStem l ⊎ MarkedBy IsStem l → length l ≤ name_length (l ++ rest)
    case (inl h) = omega (arith, stem-is-longest l rest h, stem-below (l ++ rest))
    case (inr h) = omega (arith, marked-length l rest h)

-- No mark stands at a place.
pub no-mark-at-end : (s : List ℕ) (end : ℕ) → length s ≤ end → mark_length (drop end s) ≡ 0
no-mark-at-end s end h = ap mark_length (drop_of_length-le s h)

pub no-mark-here : (s : List ℕ) (end : ℕ) → end < length s → (get_or s end 0 ≡ 63 → ⊥) → (get_or s end 0 ≡ 33 → ⊥) → mark_length (drop end s) ≡ 0
no-mark-here s end w p q =
    ap mark_length (drop-cons s end 0 w) ∙ (ap (λ t. cond (t || eqb (get_or s end 0) 33) 1 0) (ne_eqb (get_or s end 0) 63 p) ∙ ap (λ t. cond t 1 0) (ne_eqb (get_or s end 0) 33 q))
