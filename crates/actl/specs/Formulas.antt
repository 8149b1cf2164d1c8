-- Definition 3 of document 000, the syntax, within 01's fragment; node numbers; classes.
use Rattle.std.specs.Prelude.{Bool, true, false, cond, ◌&&◌, ◌||◌, List, [], ◌∷◌, ◌++◌, ℕ, suc, ◌+◌, eqb}
use Rattle.std.proofs.Math.Option.{Option, none, some}
use Rattle.actl.specs.Actions.{Mask, Cond}

-- T, ~f, f | g, EX[A] f, AX[A] f, EU[A] f, EU[A;B] f
pub data Formula : Type 0 where
  tru : Formula
  not : Formula → Formula
  or : Formula → Formula → Formula
  ex : Cond → Formula → Formula
  ax : Cond → Formula → Formula
  eu : Mask → Formula → Formula
  eu_then : Mask → Mask → Formula → Formula

-- 01: "Each `T`, `~`, `|`, EX, AX and EU is a node". Their number:
abbrev pub size : Formula → ℕ
size tru = 1
size (not f) = suc (size f)
size (or f g) = suc (size f + size g)
size (ex c f) = suc (size f)
size (ax c f) = suc (size f)
size (eu a f) = suc (size f)
size (eu_then a b f) = suc (size f)

-- 01: "Nodes are numbered from 0, a node before its arms, the left arm before the right." Member k is the subformula at node k.
abbrev pub nodes : Formula → List Formula
nodes tru = tru ∷ []
nodes (not f) = not f ∷ nodes f
nodes (or f g) = or f g ∷ (nodes f ++ nodes g)
nodes (ex c f) = ex c f ∷ nodes f
nodes (ax c f) = ax c f ∷ nodes f
nodes (eu a f) = eu a f ∷ nodes f
nodes (eu_then a b f) = eu_then a b f ∷ nodes f

-- The same as a relation: node k of F is the root of the subformula f.
pub data At (F : Formula) : ℕ → Formula → Type 0 where
  root : At F 0 F
  in_not : {k : ℕ} {f : Formula} → At F k (not f) → At F (suc k) f
  in_left : {k : ℕ} {f g : Formula} → At F k (or f g) → At F (suc k) f
  in_right : {k : ℕ} {f g : Formula} → At F k (or f g) → At F (suc (k + size f)) g
  in_ex : {k : ℕ} {c : Cond} {f : Formula} → At F k (ex c f) → At F (suc k) f
  in_ax : {k : ℕ} {c : Cond} {f : Formula} → At F k (ax c f) → At F (suc k) f
  in_eu : {k : ℕ} {a : Mask} {f : Formula} → At F k (eu a f) → At F (suc k) f
  in_eu_then : {k : ℕ} {a b : Mask} {f : Formula} → At F k (eu_then a b f) → At F (suc k) f

abbrev pub is_t : Formula → Bool
is_t tru = true
is_t (not f) = false
is_t (or f g) = false
is_t (ex c f) = false
is_t (ax c f) = false
is_t (eu a f) = false
is_t (eu_then a b f) = false

-- 01: "The class of a node follows from this table". 0 is no class.
-- ~ with an arm of class 1 / class 2: 2 / 1
abbrev pub class_of_not : ℕ → ℕ
class_of_not arm = cond (eqb arm 1) 2 (cond (eqb arm 2) 1 0)

-- | with both arms of class 1: 1
abbrev pub class_of_or : ℕ → ℕ → ℕ
class_of_or left right = cond (eqb left 1 && eqb right 1) 1 0

-- EX and EU with an arm of class 1: 1
abbrev pub class_of_some : ℕ → ℕ
class_of_some arm = cond (eqb arm 1) 1 0

-- AX with an arm of class 2, or the node T: 2
abbrev pub class_of_all : Bool → ℕ → ℕ
class_of_all node-T arm = cond (node-T || eqb arm 2) 2 0

unfoldable pub class_of : Formula → ℕ
class_of tru = 1
class_of (not f) = class_of_not (class_of f)
class_of (or f g) = class_of_or (class_of f) (class_of g)
class_of (ex c f) = class_of_some (class_of f)
class_of (ax c f) = class_of_all (is_t f) (class_of f)
class_of (eu a f) = class_of_some (class_of f)
class_of (eu_then a b f) = class_of_some (class_of f)

abbrev pub has_no_class : Formula → Bool
has_no_class f = eqb (class_of f) 0

-- The highest-numbered node without class, where k is the number of the list's first node.
abbrev pub highest_from : ℕ → List Formula → Option ℕ → Option ℕ
highest_from k [] found = found
highest_from k (f ∷ l) found = highest_from (suc k) l (cond (has_no_class f) (some k) found)

unfoldable pub highest_without_class : Formula → Option ℕ
highest_without_class F = highest_from 0 (nodes F) none
