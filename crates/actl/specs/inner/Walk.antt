-- Numbering and classes by a walk over the nodes' kinds: where the arms of each node end, and each node's class.
use Rattle.std.specs.Prelude.{◌≡◌, cond, ◌&&◌, List, [], ◌∷◌, ◌++◌, map, ℕ, suc, ◌+◌, ◌*◌, leb, eqb, drop, get_or}
use Rattle.std.proofs.Math.Option.{Option, some}
use Rattle.std.proofs.lemmas.List.Edits.{sets}
use Rattle.actl.specs.Sizes.{node_slot_length}
use Rattle.lts.specs.inner.Lists.{up_from}
use Rattle.actl.specs.Formulas.{Formula, tru, not, or, ex, ax, eu, eu_then, size, nodes, is_t, class_of, class_of_not, class_of_some, class_of_all}
use Rattle.actl.specs.Prepared.{slot_of}

-- The kinds of a formula's nodes, in node order.
abbrev pub kind_of : Formula → ℕ
kind_of f = (slot_of f).kind

abbrev pub kinds_of : Formula → List ℕ
kinds_of f = map kind_of (nodes f)

-- The kinds of the first n nodes, in a prepared formula's bytes.
abbrev pub kinds_in : List ℕ → ℕ → List ℕ
kinds_in b n = map (λ k. get_or b (1 + k * node_slot_length) 0) (up_from 0 n)

-- The kind of node k; 0 if there is none.
abbrev pub kind_at : List ℕ → ℕ → ℕ
kind_at kinds k = cond (leb (get_or kinds k 0) 9) (get_or kinds k 0) 0

-- What a node is as an arm: its class, or 3 for the node T, which AX tells from other nodes of class 1.
abbrev pub arm_of : Formula → ℕ
arm_of f = cond (is_t f) 3 (class_of f)

abbrev pub class_of_arm : ℕ → ℕ
class_of_arm arm = cond (eqb arm 3) 1 arm

-- 01's table: from a node's kind and its arm to the node's class. Of `|`, which has two arms, each of them must give 1.
unfoldable pub class_from : ℕ → ℕ → ℕ
class_from kind arm =
    cond (eqb kind 0) 0 (
    cond (eqb kind 1) 1 (
    cond (eqb kind 2) (class_of_not (class_of_arm arm)) (
    cond (leb 6 kind && leb kind 7) (class_of_all (eqb arm 3) (class_of_arm arm)) (
    class_of_some (class_of_arm arm)))))

-- Of f's nodes, if its root is node k: the number of the first node behind each one's arms; and the class.
abbrev pub ends_from : ℕ → Formula → List ℕ
ends_from k tru = (k + 1) ∷ []
ends_from k (not f) = (k + 1 + size f) ∷ ends_from (k + 1) f
ends_from k (or f g) = (k + 1 + size f + size g) ∷ (ends_from (k + 1) f ++ ends_from (k + 1 + size f) g)
ends_from k (ex c f) = (k + 1 + size f) ∷ ends_from (k + 1) f
ends_from k (ax c f) = (k + 1 + size f) ∷ ends_from (k + 1) f
ends_from k (eu a f) = (k + 1 + size f) ∷ ends_from (k + 1) f
ends_from k (eu_then a b f) = (k + 1 + size f) ∷ ends_from (k + 1) f

abbrev pub classes_of : Formula → List ℕ
classes_of f = map class_of (nodes f)

-- At k of the kinds stand those of f.
abbrev pub Spelled : List ℕ → ℕ → Formula → Type 0
Spelled kinds k f = (rest : List ℕ) × (drop k kinds ≡ kinds_of f ++ rest)

-- The walk at k: it finds the formula that stands there, and notes the ends and the classes of its nodes.
pub record Traversed (kinds ends endsAfter classes classesAfter : List ℕ) (k end arm : ℕ) : Type 0 where
  pub formula : Formula
  pub spelled : Spelled kinds k formula
  pub behind : end ≡ k + size formula
  pub as_arm_lem : arm ≡ arm_of formula
  pub ends_noted : endsAfter ≡ sets ends k (ends_from k formula)
  pub classes_noted : classesAfter ≡ sets classes k (classes_of formula)

-- The last of the classes that is none, where k is the number of the list's first node.
abbrev pub last_none : ℕ → List ℕ → Option ℕ → Option ℕ
last_none k [] found = found
last_none k (class ∷ l) found = last_none (suc k) l (cond (eqb class 0) (some k) found)
