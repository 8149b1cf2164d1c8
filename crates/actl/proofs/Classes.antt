-- The classes by type: class 1 are the formulas that have witnesses, class 2 those that have counterexamples. A node of a formula
-- with a class has a class.
use mathlib.Core.Path.{◌≡◌, refl, sym, ◌∙◌}
use mathlib.Core.Logic.{◌⊎◌, inl, inr}
use mathlib.Core.Bool.{Bool, true, false, cond, ◌&&◌, ◌||◌, true≢false, false≢true}
use Prim.Native.Nat.{ℕ, suc}
use native.Mathlib.Omega.{arith}
use lib.Dec.{eqb}
use borrow.Author.Tests.{eqb-true}
use Rattle.lts.proofs.Booleans.{and-true-of, or-true-of}
use Rattle.actl.specs.Formulas.{Formula, tru, not, or, ex, ax, eu, eu_then, is_t, class_of, class_of_not, class_of_or, class_of_some, class_of_all, At, root, in_not, in_left}
use Rattle.actl.specs.Formulas.{in_right, in_ex, in_ax, in_eu, in_eu_then}

abbrev mutual
  pub Witnessable : Formula → Type 0
  Witnessable tru = Unit {0}
  Witnessable (not f) = Refutable f
  Witnessable (or f g) = Witnessable f × Witnessable g
  Witnessable (ex c f) = Witnessable f
  Witnessable (ax c f) = ⊥
  Witnessable (eu a f) = Witnessable f
  Witnessable (eu_then a b f) = Witnessable f

  pub Refutable : Formula → Type 0
  Refutable tru = ⊥
  Refutable (not f) = Witnessable f
  Refutable (or f g) = ⊥
  Refutable (ex c f) = ⊥
  Refutable (ax c f) = (is_t f ≡ true) ⊎ Refutable f
  Refutable (eu a f) = ⊥
  Refutable (eu_then a b f) = ⊥

pub arm_refutable : (f : Formula) → is_t f ≡ false → (is_t f ≡ true) ⊎ Refutable f → Refutable f
arm_refutable f e (inl d) = absurd (true≢false (sym d ∙ e))
arm_refutable f e (inr t) = t

-- From the number to the type, by the tests that the table makes.
first_test : (a b : Bool) → ◌≡◌ {A = ℕ} (cond a 2 (cond b 1 0)) 2 → a ≡ true
first_test true b e = refl
first_test false true e = absurd (omega arith)
first_test false false e = absurd (omega arith)

second_test : (a b : Bool) → ◌≡◌ {A = ℕ} (cond a 2 (cond b 1 0)) 1 → b ≡ true
second_test true b e = absurd (omega arith)
second_test false true e = refl
second_test false false e = absurd (omega arith)

passed : (k : ℕ) (a : Bool) → cond a (suc k) 0 ≡ suc k → a ≡ true
passed k true e = refl
passed k false e = absurd (omega arith)

other-class : (k n : ℕ) → (suc k ≡ suc n → ⊥) → (a : Bool) → cond a (suc k) 0 ≡ suc n → ⊥
other-class k n d true e = d e
other-class k n d false e = omega arith

not-one : (n : ℕ) → class_of_not n ≡ 1 → n ≡ 2
not-one n e = eqb-true n 2 (second_test (eqb n 1) (eqb n 2) e)

not-two : (n : ℕ) → class_of_not n ≡ 2 → n ≡ 1
not-two n e = eqb-true n 1 (first_test (eqb n 1) (eqb n 2) e)

or-one : (m n : ℕ) → class_of_or m n ≡ 1 → (m ≡ 1) × (n ≡ 1)
or-one m n e = let h = and-true-of (eqb m 1) (eqb n 1) (passed 0 (eqb m 1 && eqb n 1) e) in (eqb-true m 1 h.0, eqb-true n 1 h.1)

or-two : (m n : ℕ) → class_of_or m n ≡ 2 → ⊥
or-two m n e = other-class 0 1 (λ z. omega arith) (eqb m 1 && eqb n 1) e

some_one : (n : ℕ) → class_of_some n ≡ 1 → n ≡ 1
some_one n e = eqb-true n 1 (passed 0 (eqb n 1) e)

some-two : (n : ℕ) → class_of_some n ≡ 2 → ⊥
some-two n e = other-class 0 1 (λ z. omega arith) (eqb n 1) e

all_one : (b : Bool) (n : ℕ) → class_of_all b n ≡ 1 → ⊥
all_one b n e = other-class 1 0 (λ z. omega arith) (b || eqb n 2) e

all_two : (b : Bool) (n : ℕ) → class_of_all b n ≡ 2 → (b ≡ true) ⊎ (n ≡ 2)
all_two b n e = elim (or-true-of b (eqb n 2) (passed 1 (b || eqb n 2) e)) [ inl h ↦ inl h | inr h ↦ inr (eqb-true n 2 h) ]

pub class_types : (f : Formula) → (class_of f ≡ 1 → Witnessable f) × (class_of f ≡ 2 → Refutable f)
unfolding class_of
class_types tru = (λ e. tt, λ e. omega arith)
class_types (not f) = let h = class_types f in (λ e. h.1 (not-one _ e), λ e. h.0 (not-two _ e))
class_types (or f g) = let h = class_types f in let i = class_types g in
    (λ e. let d = or-one (class_of f) (class_of g) e in (h.0 d.0, i.0 d.1), λ e. absurd (or-two (class_of f) (class_of g) e))
class_types (ex c f) = let h = class_types f in (λ e. h.0 (some_one (class_of f) e), λ e. absurd (some-two (class_of f) e))
class_types (ax c f) = let h = class_types f in (λ e. absurd (all_one (is_t f) (class_of f) e), λ e. step h.1 (all_two (is_t f) (class_of f) e))
  where
    step : (class_of f ≡ 2 → Refutable f) → (is_t f ≡ true) ⊎ (class_of f ≡ 2) → (is_t f ≡ true) ⊎ Refutable f
    step h (inl e) = inl e
    step h (inr e) = inr (h e)
class_types (eu a f) = let h = class_types f in (λ e. h.0 (some_one (class_of f) e), λ e. absurd (some-two (class_of f) e))
class_types (eu_then a b f) = let h = class_types f in (λ e. h.0 (some_one (class_of f) e), λ e. absurd (some-two (class_of f) e))

-- And back.
all-of-two : (b : Bool) → class_of_all b 2 ≡ 2
all-of-two true = refl
all-of-two false = refl

pub class-numbers : (f : Formula) → (Witnessable f → class_of f ≡ 1) × (Refutable f → class_of f ≡ 2)
unfolding class_of
class-numbers tru = (λ o. refl, λ z. absurd z)
class-numbers (not f) = let h = class-numbers f in (λ o. rw (h.1 o), λ o. rw (h.0 o))
class-numbers (or f g) = (λ o. rw ((class-numbers f).0 o.0, (class-numbers g).0 o.1), λ z. absurd z)
class-numbers (ex c f) = (λ o. rw ((class-numbers f).0 o), λ z. absurd z)
class-numbers (ax c f) = (λ z. absurd z, λ o. elim o [ inl e ↦ rw e | inr d ↦ rw ((class-numbers f).1 d) (all-of-two (is_t f)) ])
class-numbers (eu a f) = (λ o. rw ((class-numbers f).0 o), λ z. absurd z)
class-numbers (eu_then a b f) = (λ o. rw ((class-numbers f).0 o), λ z. absurd z)

-- A node's class.
arm_T : (f : Formula) → is_t f ≡ true → Witnessable f
arm_T tru e = tt
arm_T (not f) e = absurd (false≢true e)
arm_T (or f g) e = absurd (false≢true e)
arm_T (ex c f) e = absurd (false≢true e)
arm_T (ax c f) e = absurd (false≢true e)
arm_T (eu a f) e = absurd (false≢true e)
arm_T (eu_then a b f) e = absurd (false≢true e)

arm_of-all : (f : Formula) → (is_t f ≡ true) ⊎ Refutable f → Witnessable f ⊎ Refutable f
arm_of-all f (inl e) = inl (arm_T f e)
arm_of-all f (inr t) = inr t

at-classed : {F : Formula} → Witnessable F ⊎ Refutable F → {k : ℕ} {f : Formula} → At F k f → Witnessable f ⊎ Refutable f
at-classed c root = c
at-classed c (in_not h) = elim (at-classed c h) [ inl o ↦ inr o | inr o ↦ inl o ]
at-classed c (in_left h) = elim (at-classed c h) [ inl o ↦ inl o.0 | inr z ↦ absurd z ]
at-classed c (in_right h) = elim (at-classed c h) [ inl o ↦ inl o.1 | inr z ↦ absurd z ]
at-classed c (in_ex h) = elim (at-classed c h) [ inl o ↦ inl o | inr z ↦ absurd z ]
at-classed c (in_ax {f} h) = elim (at-classed c h) [ inl z ↦ absurd z | inr o ↦ arm_of-all f o ]
at-classed c (in_eu h) = elim (at-classed c h) [ inl o ↦ inl o | inr z ↦ absurd z ]
at-classed c (in_eu_then h) = elim (at-classed c h) [ inl o ↦ inl o | inr z ↦ absurd z ]

abbrev pub HasClass : Formula → Type 0
HasClass f = (class_of f ≡ 1) ⊎ (class_of f ≡ 2)

pub class-of-node : {F : Formula} → HasClass F → {k : ℕ} {f : Formula} → At F k f → HasClass f
class-of-node {F} c {f} h = back (at-classed (start c) h)
  where
    start : HasClass F → Witnessable F ⊎ Refutable F
    start (inl e) = inl ((class_types F).0 e)
    start (inr e) = inr ((class_types F).1 e)

    back : Witnessable f ⊎ Refutable f → HasClass f
    back (inl o) = inl ((class-numbers f).0 o)
    back (inr o) = inr ((class-numbers f).1 o)

-- There are no other classes.
abbrev Small : ℕ → Type 0
Small n = (n ≡ 0 → ⊥) → (n ≡ 1) ⊎ (n ≡ 2)

pair_small : (a b : Bool) → Small (cond a 2 (cond b 1 0))
pair_small true b h = inr refl
pair_small false true h = inl refl
pair_small false false h = absurd (h refl)

one-small : (a : Bool) → Small (cond a 1 0)
one-small true h = inl refl
one-small false h = absurd (h refl)

two-small : (a : Bool) → Small (cond a 2 0)
two-small true h = inr refl
two-small false h = absurd (h refl)

pub has-class : (f : Formula) → (class_of f ≡ 0 → ⊥) → HasClass f
unfolding class_of
has-class tru h = inl refl
has-class (not f) h = pair_small (eqb (class_of f) 1) (eqb (class_of f) 2) h
has-class (or f g) h = one-small (eqb (class_of f) 1 && eqb (class_of g) 1) h
has-class (ex c f) h = one-small (eqb (class_of f) 1) h
has-class (ax c f) h = two-small (is_t f || eqb (class_of f) 2) h
has-class (eu a f) h = one-small (eqb (class_of f) 1) h
has-class (eu_then a b f) h = one-small (eqb (class_of f) 1) h
