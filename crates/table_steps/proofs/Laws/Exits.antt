-- Where a state's transitions stand: those that leave s are the slice from `exits_below l s` to `exits_below l (suc s)`.
use mathlib.Core.Path.{◌≡◌, refl, ap}
use mathlib.Core.Logic.{inl, inr}
use mathlib.Core.Bool.{Bool, true, false, cond}
use mathlib.Core.List.{List, [], ◌∷◌, Memᴰ}
use Prim.Native.Nat.{ℕ, zero, suc, ◌≤◌, ◌<◌}
use native.Mathlib.Omega.{arith}
use lib.Dec.{ltb}
use lib.ListN.{length, get_or}
use lib.Seq.{slice}
use borrow.Author.Tests.{ltb-true, ltb-false, eq-eqb, ne_eqb}
use Rattle.lts.specs.inner.Lists.{keep, or_else}
use Rattle.lts.specs.Lists.{Rising}
use Rattle.lts.specs.Steps.{Step, Table}
use Rattle.lts.specs.inner.Steps.{idle_at, leaves, steps_from}
use Rattle.lts.specs.inner.Range.{InRange, Below}
use Rattle.table_steps.specs.inner.StepArray.{exits_below}
use Rattle.lts.proofs.Lists.{keep-slice, get_d_mem, rising_weaken}

-- No step leaves a lower state than an earlier one.
abbrev pub NoFall : List Step → Type 0
NoFall l = Rising (λ a b. a.from ≤ b.from) l

pub no_fall : (t : Table) → InRange t → NoFall t.transitions
no_fall t r = rising_weaken Below (λ a b. a.from ≤ b.from) leave t.transitions r.steps_rise
  where
    leave : (a b : Step) → Below a b → a.from ≤ b.from
    leave a b (inl l) = omega arith
    leave a b (inr e) = omega (arith, e.0)

pub exits_at-most : (l : List Step) (s : ℕ) → exits_below l s ≤ length l
exits_at-most [] s = omega arith
exits_at-most (x ∷ l) s = count (ltb x.from s) (exits_at-most l s)
  where
    count : (b : Bool) → exits_below l s ≤ length l → cond b (suc (exits_below l s)) (exits_below l s) ≤ suc (length l)
    count true h = omega arith
    count false h = omega arith

-- The number by the two parts that it makes.
pub exits_are : (l : List Step) (k s : ℕ) (d : Step) → k ≤ length l → ((i : ℕ) → i < k → (get_or l i d).from < s)
    → ((i : ℕ) → k ≤ i → i < length l → s ≤ (get_or l i d).from) → exits_below l s ≡ k
exits_are [] zero s d h f g = refl
exits_are [] (suc k) s d h f g = absurd (omega arith)
exits_are (x ∷ l) zero s d h f g =
    count (ltb x.from s) refl (g 0 (omega arith) (omega arith)) (exits_are l zero s d (omega arith) (λ i u. absurd (omega arith)) (λ i u v. g (suc i) (omega arith) (omega arith)))
  where
    count : (b : Bool) → ltb x.from s ≡ b → s ≤ x.from → exits_below l s ≡ zero → cond b (suc (exits_below l s)) (exits_below l s) ≡ zero
    count true e o h = absurd (omega (arith, ltb-true x.from s e))
    count false e o h = h
exits_are (x ∷ l) (suc k) s d h f g =
    count (ltb x.from s) refl (f 0 (omega arith)) (exits_are l k s d (omega arith) (λ i u. f (suc i) (omega arith)) (λ i u v. g (suc i) (omega arith) (omega arith)))
  where
    count : (b : Bool) → ltb x.from s ≡ b → x.from < s → exits_below l s ≡ k → cond b (suc (exits_below l s)) (exits_below l s) ≡ suc k
    count true e o h = ap suc h
    count false e o h = absurd (omega (arith, ltb-false x.from s e))

pub exits_none : (l : List Step) (s : ℕ) → ((y : Step) → Memᴰ y l → s ≤ y.from) → exits_below l s ≡ 0
exits_none l s h =
    exits_are l 0 s (idle_at 0) (omega arith) (λ i u. absurd (omega arith)) (λ i u v. h (get_or l i (idle_at 0)) (get_d_mem l i (idle_at 0) v))

-- The two parts of the number.
pub exits_before : (l : List Step) → NoFall l → (s i : ℕ) (d : Step) → i < exits_below l s → (get_or l i d).from < s
exits_before [] r s i d h = absurd (omega arith)
exits_before (x ∷ l) r s zero d h = count (ltb x.from s) refl h
  where
    count : (b : Bool) → ltb x.from s ≡ b → zero < cond b (suc (exits_below l s)) (exits_below l s) → x.from < s
    count true e o = ltb-true x.from s e
    count false e o =
        let below : s ≤ x.from = ltb-false x.from s e in
        let none : exits_below l s ≡ 0 = exits_none l s (λ y m. omega (arith, r.0 y m)) in absurd (omega arith)
exits_before (x ∷ l) r s (suc i) d h = count (ltb x.from s) refl h (exits_before l r.1 s i d)
  where
    count : (b : Bool) → ltb x.from s ≡ b → suc i < cond b (suc (exits_below l s)) (exits_below l s)
        → (i < exits_below l s → (get_or l i d).from < s) → (get_or l i d).from < s
    count true e o k = k (omega arith)
    count false e o k = k (omega arith)

pub exits_after : (l : List Step) → NoFall l → (s i : ℕ) (d : Step) → exits_below l s ≤ i → i < length l → s ≤ (get_or l i d).from
exits_after [] r s i d h b = absurd (omega arith)
exits_after (x ∷ l) r s zero d h b = count (ltb x.from s) refl h
  where
    count : (b : Bool) → ltb x.from s ≡ b → cond b (suc (exits_below l s)) (exits_below l s) ≤ zero → s ≤ x.from
    count true e o = absurd (omega arith)
    count false e o = ltb-false x.from s e
exits_after (x ∷ l) r s (suc i) d h b = count (ltb x.from s) refl h (exits_after l r.1 s i d)
  where
    count : (z : Bool) → ltb x.from s ≡ z → cond z (suc (exits_below l s)) (exits_below l s) ≤ suc i
        → (exits_below l s ≤ i → i < length l → s ≤ (get_or l i d).from) → s ≤ (get_or l i d).from
    count true e o k = k (omega arith) (omega arith)
    count false e o k =
        let below : s ≤ x.from = ltb-false x.from s e in
        omega (arith, r.0 (get_or l i d) (get_d_mem l i d (omega arith)))

pub exits_grow : (l : List Step) (s : ℕ) → exits_below l s ≤ exits_below l (suc s)
exits_grow [] s = omega arith
exits_grow (x ∷ l) s = count (ltb x.from s) (ltb x.from (suc s)) refl refl (exits_grow l s)
  where
    count : (a b : Bool) → ltb x.from s ≡ a → ltb x.from (suc s) ≡ b → exits_below l s ≤ exits_below l (suc s)
        → cond a (suc (exits_below l s)) (exits_below l s) ≤ cond b (suc (exits_below l (suc s))) (exits_below l (suc s))
    count true true e d h = omega arith
    count true false e d h = absurd (omega (arith, ltb-true x.from s e, ltb-false x.from (suc s) d))
    count false true e d h = omega arith
    count false false e d h = h

module _ (l : List Step) (r : NoFall l) (s : ℕ) where
  pub leaves-slice : keep (leaves s) l ≡ slice (exits_below l s) (exits_below l (suc s)) l
  leaves-slice =
      keep-slice (leaves s) (idle_at 0) l (exits_below l s) (exits_below l (suc s)) (exits_grow l s) (exits_at-most l (suc s))
      (λ i h. ne_eqb (get_or l i (idle_at 0)).from s (λ e. omega (arith, exits_before l r s i (idle_at 0) h)))
      (λ i h k. eq-eqb (get_or l i (idle_at 0)).from s (inside i h k))
      (λ i h k. ne_eqb (get_or l i (idle_at 0)).from s (λ e. omega (arith, exits_after l r (suc s) i (idle_at 0) h k)))
    where
      inside : (i : ℕ) → exits_below l s ≤ i → i < exits_below l (suc s) → (get_or l i (idle_at 0)).from ≡ s
      inside i h k =
          let few : i < length l = omega (arith, exits_at-most l (suc s)) in
          omega (arith, exits_before l r (suc s) i (idle_at 0) k, exits_after l r s i (idle_at 0) h few)

pub steps-slice : (t : Table) → InRange t → (s : ℕ)
    → steps_from t s ≡ or_else (slice (exits_below t.transitions s) (exits_below t.transitions (suc s)) t.transitions) (idle_at s ∷ [])
unfolding steps_from
steps-slice t r s = ap (λ l. or_else l (idle_at s ∷ [])) (leaves-slice t.transitions (no_fall t r) s)

-- Every transition leaves a state of the table.
pub exits_all : (t : Table) → InRange t → (s : ℕ) → t.states ≤ s → exits_below t.transitions s ≡ length t.transitions
exits_all t r s h =
    exits_are t.transitions (length t.transitions) s (idle_at 0) (omega arith)
    (λ i u. omega (arith, (r.steps_in_range (get_or t.transitions i (idle_at 0)) (get_d_mem t.transitions i (idle_at 0) u)).leaves)) (λ i u v. absurd (omega arith))
