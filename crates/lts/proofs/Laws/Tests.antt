-- The tests of reading as facts: names, ranges, order, uses of a name.
use mathlib.Core.Path.{◌≡◌, refl, sym, ◌∙◌, subst}
use mathlib.Core.Logic.{◌⊎◌, inl, inr}
use mathlib.Core.Bool.{Bool, true, false, true≢false, false≢true, not, ◌&&◌, ◌||◌}
use mathlib.Core.List.Memᴰ
use mathlib.Core.List.{List, [], ◌∷◌, Memᴰ}
use Prim.Native.Nat.{ℕ, zero, suc, ◌≤◌, ◌<◌}
use native.Mathlib.Omega.{arith}
use lib.Dec.{leb, ltb, eqb}
use lib.ListN.{length}
use borrow.Author.Tests.{ltb-true, leb-true, eqb-true, lt-ltb, le-leb, eq-eqb}
use Rattle.lts.specs.Sizes.{most_states, most_labels, most_transitions}
use Rattle.columns.specs.Bytes.{same_bytes}
use Rattle.columns.proofs.Laws.Bytes.{same_of, same-to}
use Rattle.lts.specs.Lists.{Rising}
use Rattle.lts.specs.Names.{is_lower, is_name_byte, at_most, is_name}
use Rattle.lts.specs.Marks.{marked, is_mark, is_last_mark}
use Rattle.lts.specs.Steps.{Step}
use Rattle.lts.specs.inner.Range.{Below, Differ}
use Rattle.lts.specs.Reading.{Header, header_in_range, used, step_in_range, step_below, above}
use Rattle.lts.proofs.Booleans.{and-true-of, and-true-to, or-true-of, or-true-left, or_true_right, not-false}
use Rattle.lts.proofs.Lists.{some_of, some_to}

-- Order of transitions.
pub below_of : (a b : Step) → step_below a b ≡ true → Below a b
below_of a b e = outer (or-true-of (ltb a.from b.from) _ e)
  where
    inner : (ltb a.label b.label ≡ true) ⊎ ((eqb a.label b.label && ltb a.to b.to) ≡ true)
        → (a.label < b.label) ⊎ ((a.label ≡ b.label) × (a.to < b.to))
    inner (inl d) = inl (ltb-true _ _ d)
    inner (inr d) = let p = and-true-of (eqb a.label b.label) _ d in inr (eqb-true _ _ p.0, ltb-true _ _ p.1)

    outer : (ltb a.from b.from ≡ true) ⊎ ((eqb a.from b.from && (ltb a.label b.label || (eqb a.label b.label && ltb a.to b.to))) ≡ true) → Below a b
    outer (inl d) = inl (ltb-true _ _ d)
    outer (inr d) = let p = and-true-of (eqb a.from b.from) _ d in inr (eqb-true _ _ p.0, inner (or-true-of (ltb a.label b.label) _ p.1))

pub below-to : (a b : Step) → Below a b → step_below a b ≡ true
below-to a b (inl l) = or-true-left (ltb a.from b.from) _ (lt-ltb _ _ l)
below-to a b (inr r) = or_true_right (ltb a.from b.from) _ (and-true-to (eqb a.from b.from) _ (eq-eqb _ _ r.0) (inner r.1))
  where
    inner : (a.label < b.label) ⊎ ((a.label ≡ b.label) × (a.to < b.to)) → (ltb a.label b.label || (eqb a.label b.label && ltb a.to b.to)) ≡ true
    inner (inl l) = or-true-left (ltb a.label b.label) _ (lt-ltb _ _ l)
    inner (inr q) = or_true_right (ltb a.label b.label) _ (and-true-to (eqb a.label b.label) _ (eq-eqb _ _ q.0) (lt-ltb _ _ q.1))

abbrev WithinLabel : Step → Step → Type 0
WithinLabel a b = (a.label < b.label) ⊎ ((a.label ≡ b.label) × (a.to < b.to))

within_trans : (a b c : Step) → WithinLabel a b → WithinLabel b c → WithinLabel a c
within_trans a b c (inl l) (inl m) = inl (omega arith)
within_trans a b c (inl l) (inr m) = inl (omega (arith, m.0))
within_trans a b c (inr l) (inl m) = inl (omega (arith, l.0))
within_trans a b c (inr l) (inr m) = inr (omega arith, omega arith)

pub below_trans : (a b c : Step) → Below a b → Below b c → Below a c
below_trans a b c (inl l) (inl m) = inl (omega arith)
below_trans a b c (inl l) (inr m) = inl (omega (arith, m.0))
below_trans a b c (inr l) (inl m) = inl (omega (arith, l.0))
below_trans a b c (inr l) (inr m) = inr (l.0 ∙ m.0, within_trans a b c l.1 m.1)

-- Above the last one is above them all.
pub above_of : (l : List Step) (st : Step) → Rising Below l → above l st ≡ true → (x : Step) → Memᴰ x l → Below x st
above_of [] st r e x m = absurd (Memᴰ.not-nil m)
above_of (y ∷ []) st r e x m = subst (λ z. Below z st) (sym (Memᴰ.eq_of_singleton m)) (below_of y st e)
above_of (y ∷ z ∷ l) st r e x m = step (above_of (z ∷ l) st r.1 e) (Memᴰ.cases_cons m)
  where
    step : ((x : Step) → Memᴰ x (z ∷ l) → Below x st) → (x ≡ y) ⊎ Memᴰ x (z ∷ l) → Below x st
    step h (inl d) = subst (λ w. Below w st) (sym d) (below_trans y z st (r.0 z (Memᴰ.head refl)) (h z (Memᴰ.head refl)))
    step h (inr n) = h x n

pub above-to : (l : List Step) (st : Step) → ((x : Step) → Memᴰ x l → Below x st) → above l st ≡ true
above-to [] st h = refl
above-to (y ∷ []) st h = below-to y st (h y (Memᴰ.head refl))
above-to (y ∷ z ∷ l) st h = above-to (z ∷ l) st (λ x m. h x (Memᴰ.tail m))

-- Ranges of a transition, by the counts that hold.
pub step_range_of : (h : Header) (st : Step) → step_in_range h st ≡ true → (st.from < h.states) × (st.label ≤ h.labels) × (st.to < h.states)
step_range_of h st e =
    let p = and-true-of (ltb st.from h.states && leb st.label h.labels) (ltb st.to h.states) e in
    let q = and-true-of (ltb st.from h.states) (leb st.label h.labels) p.0 in
    (ltb-true _ _ q.0, leb-true _ _ q.1, ltb-true _ _ p.1)

pub step_range_to : (h : Header) (st : Step) → st.from < h.states → st.label ≤ h.labels → st.to < h.states → step_in_range h st ≡ true
step_range_to h st a b c =
    and-true-to (ltb st.from h.states && leb st.label h.labels) (ltb st.to h.states)
    (and-true-to (ltb st.from h.states) (leb st.label h.labels) (lt-ltb _ _ a) (le-leb _ _ b)) (lt-ltb _ _ c)

-- Ranges of the counts.
pub record CountsInRange (h : Header) : Type 0 where
  pub some_state : 1 ≤ h.states
  pub few_states : h.states ≤ most_states
  pub few_labels : h.labels ≤ most_labels
  pub few_transitions : h.transitions ≤ most_transitions
  pub starts : h.start < h.states

pub counts_of : (h : Header) → header_in_range h ≡ true → CountsInRange h
counts_of h e =
    let p = and-true-of (leb 1 h.states && leb h.states most_states && leb h.labels most_labels && leb h.transitions most_transitions) _ e in
    let q = and-true-of (leb 1 h.states && leb h.states most_states && leb h.labels most_labels) _ p.0 in
    let r = and-true-of (leb 1 h.states && leb h.states most_states) _ q.0 in
    let s = and-true-of (leb 1 h.states) _ r.0 in
    record {
      some_state = leb-true _ _ s.0;
      few_states = leb-true _ _ s.1;
      few_labels = leb-true _ _ r.1;
      few_transitions = leb-true _ _ q.1;
      starts = ltb-true _ _ p.1;
    }

pub counts-to : (h : Header) → CountsInRange h → header_in_range h ≡ true
counts-to h c =
    and-true-to (leb 1 h.states && leb h.states most_states && leb h.labels most_labels && leb h.transitions most_transitions) _
    (and-true-to (leb 1 h.states && leb h.states most_states && leb h.labels most_labels) _
    (and-true-to (leb 1 h.states && leb h.states most_states) _
    (and-true-to (leb 1 h.states) _ (le-leb _ _ c.some_state) (le-leb _ _ c.few_states))
    (le-leb _ _ c.few_labels))
    (le-leb _ _ c.few_transitions))
    (lt-ltb _ _ c.starts)

-- Uses of a name.
pub used-of : (names : List (List ℕ)) (name : List ℕ) → not (used names name) ≡ true → (n : List ℕ) → Memᴰ n names → Differ n name
used-of names name e n m d =
    true≢false (sym (some_to (λ x. same_bytes x name) names m (same-to n name d)) ∙ not-false (used names name) e)

pub used-to : (names : List (List ℕ)) (name : List ℕ) → ((n : List ℕ) → Memᴰ n names → Differ n name) → not (used names name) ≡ true
used-to names name h = step (used names name) refl
  where
    step : (b : Bool) → used names name ≡ b → not b ≡ true
    step true e = let (n, m, d) = some_of (λ x. same_bytes x name) names e in absurd (h n m (same_of n name d))
    step false e = refl

-- Bytes of names.
pub lower_range : (b : ℕ) → is_lower b ≡ true → (97 ≤ b) × (b ≤ 122)
lower_range b e = let p = and-true-of (leb 97 b) (leb b 122) e in (leb-true _ _ p.0, leb-true _ _ p.1)

pub name-byte_range : (b : ℕ) → is_name_byte b ≡ true → (48 ≤ b) × (b ≤ 122)
name-byte_range b e = letter (or-true-of (is_lower b) _ e)
  where
    other : (eqb b 95 ≡ true) ⊎ ((leb 48 b && leb b 57) ≡ true) → (48 ≤ b) × (b ≤ 122)
    other (inl d) = let z = eqb-true b 95 d in (omega arith, omega arith)
    other (inr d) = let p = and-true-of (leb 48 b) (leb b 57) d in (leb-true _ _ p.0, omega (arith, leb-true b 57 p.1))

    letter : (is_lower b ≡ true) ⊎ ((eqb b 95 || (leb 48 b && leb b 57)) ≡ true) → (48 ≤ b) × (b ≤ 122)
    letter (inl d) = let p = lower_range b d in (omega arith, p.1)
    letter (inr d) = other (or-true-of (eqb b 95) _ d)

pub mark_range : (b : ℕ) → is_mark b ≡ true → (33 ≤ b) × (b ≤ 122)
mark_range b e = either (or-true-of (eqb b 63) (eqb b 33) e)
  where
    either : (eqb b 63 ≡ true) ⊎ (eqb b 33 ≡ true) → (33 ≤ b) × (b ≤ 122)
    either (inl d) = let z = eqb-true b 63 d in (omega arith, omega arith)
    either (inr d) = let z = eqb-true b 33 d in (omega arith, omega arith)

-- 01: "A name has 1 to 12 bytes"; 02: "A name may end in one `?` or `!` beyond its 12 bytes"
abbrev Bytes : List ℕ → Type 0
Bytes l = (b : ℕ) → Memᴰ b l → (33 ≤ b) × (b ≤ 122)

one_byte : (x : ℕ) → (33 ≤ x) × (x ≤ 122) → Bytes (x ∷ [])
one_byte x r b m = let z = Memᴰ.eq_of_singleton m in (omega (arith, z, r.0), omega (arith, z, r.1))

more_bytes : (x : ℕ) (l : List ℕ) → (33 ≤ x) × (x ≤ 122) → Bytes l → Bytes (x ∷ l)
more_bytes x l r h b m = member (Memᴰ.cases_cons m)
  where
    member : (b ≡ x) ⊎ Memᴰ b l → (33 ≤ b) × (b ≤ 122)
    member (inl z) = (omega (arith, r.0), omega (arith, r.1))
    member (inr k) = h b k

last-mark : (x : ℕ) (l : List ℕ) → is_last_mark marked x l ≡ true → (length l ≡ 0) × Bytes (x ∷ l)
last-mark x [] e = (refl, one_byte x (mark_range x e))
last-mark x (y ∷ l) e = absurd (false≢true e)

at-most-of : (n : ℕ) (l : List ℕ) → at_most marked n l ≡ true → (length l ≤ suc n) × Bytes l
at-most-of n [] e = (omega arith, λ b m. absurd (Memᴰ.not-nil m))
at-most-of zero (x ∷ l) e = let p = last-mark x l e in (omega (arith, p.0), p.1)
at-most-of (suc n) (x ∷ l) e = case (at-most-of n l) (or-true-of (is_last_mark marked x l) _ e)
  where
    case : (at_most marked n l ≡ true → (length l ≤ suc n) × Bytes l) → (is_last_mark marked x l ≡ true) ⊎ ((is_name_byte x && at_most marked n l) ≡ true)
        → (suc (length l) ≤ suc (suc n)) × Bytes (x ∷ l)
    case again (inl d) = let p = last-mark x l d in (omega (arith, p.0), p.1)
    case again (inr d) =
        let p = and-true-of (is_name_byte x) (at_most marked n l) d in
        let r = name-byte_range x p.0 in
        let h = again p.1 in
        (omega (arith, h.0), more_bytes x l (omega (arith, r.0), r.1) h.1)

pub record NameShape (n : List ℕ) : Type 0 where
  pub some_byte : 1 ≤ length n
  pub short : length n ≤ 13
  pub bytes : (b : ℕ) → Memᴰ b n → (33 ≤ b) × (b ≤ 122)

pub name_shape : (n : List ℕ) → is_name n ≡ true → NameShape n
name_shape [] e = absurd (false≢true e)
name_shape (x ∷ l) e =
    let p = and-true-of (is_lower x) (at_most marked 11 l) e in
    let r = lower_range x p.0 in
    let h = at-most-of 11 l p.1 in
    record { some_byte = omega arith; short = omega (arith, h.0); bytes = more_bytes x l (omega (arith, r.0), r.1) h.1 }
