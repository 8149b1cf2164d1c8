-- 01's table of classes, entry by entry, and what it says of each kind of node.
use mathlib.Core.Path.{◌≡◌, refl, sym, ap}
use mathlib.Core.Bool.{Bool, true, false, cond, ◌&&◌, ◌||◌, false≢true}
use mathlib.Core.List.{List, [], ◌∷◌}
use Prim.Native.Nat.{ℕ, ◌<◌}
use native.Mathlib.Omega.{arith}
use lib.Dec.{eqb}
use lib.ListN.{get_or}
use borrow.Author.Tests.{eqb-true, ne_eqb}
use Rattle.lts.specs.inner.Lists.{up_from}
use Rattle.lts.specs.Lists.{every}
use Rattle.lts.proofs.Lists.{up_from-to, every_of}
use Rattle.actl.specs.Actions.{Mask, Cond, silent, labels}
use Rattle.actl.specs.Formulas.{Formula, tru, not, or, ex, ax, eu, eu_then, is_t, class_of, class_of_not, class_of_or, class_of_some, class_of_all}
use Rattle.actl.specs.Prepared.{next_slot}
use Rattle.actl.specs.inner.Walk.{arm_of, class_of_arm, class_from}

-- A row for each kind, by the arm.
abbrev pub classes : List (List ℕ)
classes =
    (0 ∷ 0 ∷ 0 ∷ 0 ∷ [])
    ∷ (1 ∷ 1 ∷ 1 ∷ 1 ∷ [])
    ∷ (0 ∷ 2 ∷ 1 ∷ 2 ∷ [])
    ∷ (0 ∷ 1 ∷ 0 ∷ 1 ∷ [])
    ∷ (0 ∷ 1 ∷ 0 ∷ 1 ∷ [])
    ∷ (0 ∷ 1 ∷ 0 ∷ 1 ∷ [])
    ∷ (0 ∷ 0 ∷ 2 ∷ 2 ∷ [])
    ∷ (0 ∷ 0 ∷ 2 ∷ 2 ∷ [])
    ∷ (0 ∷ 1 ∷ 0 ∷ 1 ∷ [])
    ∷ (0 ∷ 1 ∷ 0 ∷ 1 ∷ [])
    ∷ []

entry : ℕ → ℕ → Bool
entry kind arm = eqb (get_or (get_or classes kind []) arm 0) (class_from kind arm)

row : ℕ → Bool
row kind = every (entry kind) (up_from 0 4)

table : every row (up_from 0 10) ≡ true
unfolding row entry class_from
table = refl

pub table-right : (kind arm : ℕ) → kind < 10 → arm < 4 → get_or (get_or classes kind []) arm 0 ≡ class_from kind arm
unfolding row entry
table-right kind arm h l =
    let r : every (entry kind) (up_from 0 4) ≡ true = every_of row (up_from 0 10) table kind (up_from-to 0 10 kind (omega arith) (omega arith)) in
    eqb-true (get_or (get_or classes kind []) arm 0) (class_from kind arm) (every_of (entry kind) (up_from 0 4) r arm (up_from-to 0 4 arm (omega arith) (omega arith)))

-- The arms' classes.
pair_low : (a b : Bool) → cond a 2 (cond b 1 0) < 3
pair_low true b = omega arith
pair_low false true = omega arith
pair_low false false = omega arith

one-low : (a : Bool) → cond a 1 0 < 3
one-low true = omega arith
one-low false = omega arith

two-low : (a : Bool) → cond a 2 0 < 3
two-low true = omega arith
two-low false = omega arith

pub class_low : (f : Formula) → class_of f < 3
unfolding class_of
class_low tru = omega arith
class_low (not f) = pair_low (eqb (class_of f) 1) (eqb (class_of f) 2)
class_low (or f g) = one-low (eqb (class_of f) 1 && eqb (class_of g) 1)
class_low (ex c f) = one-low (eqb (class_of f) 1)
class_low (ax c f) = two-low (is_t f || eqb (class_of f) 2)
class_low (eu a f) = one-low (eqb (class_of f) 1)
class_low (eu_then a b f) = one-low (eqb (class_of f) 1)

class-of_T : (f : Formula) → is_t f ≡ true → class_of f ≡ 1
unfolding class_of
class-of_T tru e = refl
class-of_T (not f) e = absurd (false≢true e)
class-of_T (or f g) e = absurd (false≢true e)
class-of_T (ex c f) e = absurd (false≢true e)
class-of_T (ax c f) e = absurd (false≢true e)
class-of_T (eu a f) e = absurd (false≢true e)
class-of_T (eu_then a b f) e = absurd (false≢true e)

arm_by : (t : Bool) (n : ℕ) → n < 3 → (t ≡ true → n ≡ 1) → (cond t 3 n < 4) × (class_of_arm (cond t 3 n) ≡ n) × (eqb (cond t 3 n) 3 ≡ t)
arm_by true n l h = (omega arith, sym (h refl), refl)
arm_by false n l h = let e = ne_eqb n 3 (λ z. omega arith) in (omega arith, ap (λ t. cond t 1 n) e, e)

module _ (f : Formula) where
  pub arm_low : arm_of f < 4
  arm_low = (arm_by (is_t f) (class_of f) (class_low f) (class-of_T f)).0

  pub class-of_arm : class_of_arm (arm_of f) ≡ class_of f
  class-of_arm = (arm_by (is_t f) (class_of f) (class_low f) (class-of_T f)).1

  pub arm_is_T : eqb (arm_of f) 3 ≡ is_t f
  arm_is_T = (arm_by (is_t f) (class_of f) (class_low f) (class-of_T f)).2

  -- Nodes with one arm.
  pub class-of-not : class_from 2 (arm_of f) ≡ class_of (not f)
  unfolding class_from class_of
  class-of-not = ap class_of_not class-of_arm

  pub class-of-ex : (c : Cond) → class_from (next_slot 4 c).kind (arm_of f) ≡ class_of (ex c f)
  unfolding class_from class_of
  class-of-ex silent = ap class_of_some class-of_arm
  class-of-ex (labels m) = ap class_of_some class-of_arm

  pub class-of-ax : (c : Cond) → class_from (next_slot 6 c).kind (arm_of f) ≡ class_of (ax c f)
  unfolding class_from class_of
  class-of-ax silent = λ i. class_of_all (arm_is_T i) (class-of_arm i)
  class-of-ax (labels m) = λ i. class_of_all (arm_is_T i) (class-of_arm i)

  pub class-of-eu : (a : Mask) → class_from 8 (arm_of f) ≡ class_of (eu a f)
  unfolding class_from class_of
  class-of-eu a = ap class_of_some class-of_arm

  pub class-of-eu_then : (a b : Mask) → class_from 9 (arm_of f) ≡ class_of (eu_then a b f)
  unfolding class_from class_of
  class-of-eu_then a b = ap class_of_some class-of_arm

pub class-of-or : (f g : Formula) → class_of_or (class_of_arm (arm_of f)) (class_of_arm (arm_of g)) ≡ class_of (or f g)
unfolding class_of
class-of-or f g = λ i. class_of_or (class-of_arm f i) (class-of_arm g i)

-- `|`: each of the arms must give 1.
pub or-none : (m n : ℕ) → class_of_some m ≡ 0 → class_of_or m n ≡ 0
or-none m n e = by (eqb m 1) e
  where
    by : (a : Bool) → ◌≡◌ {A = ℕ} (cond a 1 0) 0 → ◌≡◌ {A = ℕ} (cond (a && eqb n 1) 1 0) 0
    by true e = absurd (omega arith)
    by false e = refl

pub or-second : (m n : ℕ) → (class_of_some m ≡ 0 → ⊥) → class_of_some n ≡ class_of_or m n
or-second m n e = by (eqb m 1) e
  where
    by : (a : Bool) → (◌≡◌ {A = ℕ} (cond a 1 0) 0 → ⊥) → class_of_some n ≡ cond (a && eqb n 1) 1 0
    by true e = refl
    by false e = absurd (e refl)
