-- A walk from node 0 over a formula's kinds: the ends and the classes that it leaves are those of the formula's nodes.
use mathlib.Core.Path.{◌≡◌, refl, sym, ap, ◌∙◌}
use mathlib.Core.Bool.{Bool, true, false, not as negate}
use mathlib.Core.List.{List, [], ◌∷◌, ◌++◌, append-nil}
use mathlib.Core.Option.{some}
use Prim.Native.Nat.{ℕ, zero, suc, ◌+◌, ◌*◌, ◌-◌, ◌≤◌, ◌<◌}
use native.Mathlib.Decide.{dec_lt}
use native.Mathlib.Omega.{arith}
use lib.Dec.{eqb}
use lib.ListN.{length, get_or, take, drop, length-append, length-map, get_or-append, get_or-map}
use lib.Seq.{sets, sets-eq, take_at, get_or-append-add, ext_get_or}
use borrow.Author.Tests.{eqb-true, eqb-false}
use Rattle.std.proofs.Common.{Option, None, Some}
use Rattle.actl.specs.Sizes.{node_slot_length}
use Rattle.lts.specs.inner.Lists.{up_from}
use Rattle.actl.specs.Formulas.{Formula, tru, not, or, ex, ax, eu, eu_then, size, nodes, class_of}
use Rattle.actl.specs.inner.Prepared.{prepared_formula}
use Rattle.lts.specs.inner.Answers.{Decides}
use Rattle.lts.proofs.Laws.Decides.{decided_yes, decided_no}
use Rattle.actl.specs.inner.Check.{SpelledClassed}
use Rattle.actl.specs.inner.Walk.{kind_of, kinds_of, kinds_in, arm_of, class_of_arm, ends_from, classes_of, Spelled, Traversed}
use Rattle.formula_classes.specs.inner.WalkReplies.{Walks}
use Rattle.formula_classes.specs.declared.Walked.{Walked}
use Rattle.actl.proofs.Nodes.{length-nodes}
use Rattle.actl.proofs.Laws.Skeletons.{size_by_kinds, class_by_kinds, ends_by_kinds, classes_by_kinds}
use Rattle.actl.proofs.Laws.Prepared.{prepared-count, prepared-slot}
use Rattle.actl.proofs.Laws.Sets.{get_d_sets}
use Rattle.actl.proofs.Laws.Table.{class-of_arm}
use Rattle.actl.proofs.Laws.Unique.{same-behind}
use Rattle.actl.proofs.Laws.Walks.{length_kinds, length-ends, length-classes}
use Rattle.lts.proofs.Laws.Contents.{map-up_from-at}
use Rattle.lts.proofs.Lists.{up_from-length}

-- What the whole walk leaves.
pub record Noted (E E' C C' : List ℕ) (F : Formula) : Type 0 where
  pub ends : E' ≡ sets E 0 (ends_from 0 F)
  pub classes : C' ≡ sets C 0 (classes_of F)

pub same_kinds : (f F : Formula) (rest : List ℕ) → kinds_of F ≡ kinds_of f ++ rest → kinds_of f ≡ kinds_of F
same_kinds f F rest e =
    let z : [] ≡ rest = same-behind F f (append-nil (kinds_of F) ∙ e) in
    sym (e ∙ (ap (λ l. kinds_of f ++ l) (sym z) ∙ append-nil (kinds_of f)))

pub walk_noted : {K E E' C C' : List ℕ} (r : Option Walked) (F : Formula) → kinds_of F ≡ K → Walks K E E' C C' 0 r → Noted E E' C C' F
walk_noted None F e h = absurd (h F ([], sym e ∙ sym (append-nil (kinds_of F))))
walk_noted {E} {C} (Some w) F e h =
    let s = same_kinds h.formula F h.spelled.0 (e ∙ h.spelled.1) in
    record {
      ends = h.ends_noted ∙ ap (sets E 0) (ends_by_kinds h.formula F s 0);
      classes = h.classes_noted ∙ ap (sets C 0) (classes_by_kinds h.formula F s);
    }

-- Node by node.
end-of-node : (k : ℕ) (f : Formula) (j : ℕ) → j < size f → get_or (ends_from k f) j 0 ≡ k + j + size (get_or (nodes f) j tru)
end-of-node k tru zero h = omega arith
end-of-node k tru (suc j) h = absurd (omega arith)
end-of-node k (not f) zero h = omega arith
end-of-node k (not f) (suc j) h = end-of-node (k + 1) f j (omega arith) ∙ (omega arith)
end-of-node k (or f g) zero h = omega arith
end-of-node k (or f g) (suc j) h = case (dec_lt j (size f)) (λ l. end-of-node (k + 1) f j l) (λ l. end-of-node (k + 1 + size f) g (j - size f) l)
  where
    case : Dec (j < size f)
        → (j < size f → get_or (ends_from (k + 1) f) j 0 ≡ k + 1 + j + size (get_or (nodes f) j tru))
        → (j - size f < size g → get_or (ends_from (k + 1 + size f) g) (j - size f) 0 ≡ k + 1 + size f + (j - size f) + size (get_or (nodes g) (j - size f) tru))
        → get_or (ends_from (k + 1) f ++ ends_from (k + 1 + size f) g) j 0 ≡ k + suc j + size (get_or (nodes f ++ nodes g) j tru)
    case (yes l) a b =
        let p = get_or-append (ends_from (k + 1) f) (ends_from (k + 1 + size f) g) 0 j (omega (arith, length-ends (k + 1) f)) in
        let q = get_or-append (nodes f) (nodes g) tru j (omega (arith, length-nodes f)) in
        p ∙ (a l ∙ rw q (omega arith))
    case (no l) a b =
        let i = j - size f in
        let e : j ≡ length (ends_from (k + 1) f) + i = omega (arith, length-ends (k + 1) f) in
        let d : j ≡ length (nodes f) + i = omega (arith, length-nodes f) in
        let p = ap (λ x. get_or (ends_from (k + 1) f ++ ends_from (k + 1 + size f) g) x 0) e ∙ get_or-append-add (ends_from (k + 1) f) (ends_from (k + 1 + size f) g) i 0 in
        let q : get_or (nodes f ++ nodes g) j tru ≡ get_or (nodes g) i tru = ap (λ x. get_or (nodes f ++ nodes g) x tru) d ∙ get_or-append-add (nodes f) (nodes g) i tru in
        p ∙ (b (omega arith) ∙ rw q (omega arith))
end-of-node k (ex c f) zero h = omega arith
end-of-node k (ex c f) (suc j) h = end-of-node (k + 1) f j (omega arith) ∙ (omega arith)
end-of-node k (ax c f) zero h = omega arith
end-of-node k (ax c f) (suc j) h = end-of-node (k + 1) f j (omega arith) ∙ (omega arith)
end-of-node k (eu a f) zero h = omega arith
end-of-node k (eu a f) (suc j) h = end-of-node (k + 1) f j (omega arith) ∙ (omega arith)
end-of-node k (eu_then a b f) zero h = omega arith
end-of-node k (eu_then a b f) (suc j) h = end-of-node (k + 1) f j (omega arith) ∙ (omega arith)

any_default : {A : Type 0} (l : List A) (i : ℕ) (d e : A) → i < length l → get_or l i d ≡ get_or l i e
any_default [] i d e h = absurd (omega arith)
any_default (x ∷ l) zero d e h = refl
any_default (x ∷ l) (suc i) d e h = any_default l i d e (omega arith)

class-of-node : (f : Formula) (j : ℕ) → j < size f → get_or (classes_of f) j 0 ≡ class_of (get_or (nodes f) j tru)
class-of-node f j h = any_default (classes_of f) j 0 (class_of tru) (omega (arith, length-classes f)) ∙ get_or-map class_of (nodes f) j tru

module _ {E E' C C' : List ℕ} (F : Formula) (h : Noted E E' C C' F) (k : ℕ) (l : k < size F) where
  pub noted-end : size F ≤ length E → get_or E' k 0 ≡ k + size (get_or (nodes F) k tru)
  noted-end m =
      let e = get_d_sets E 0 (ends_from 0 F) k 0 (omega (arith, length-ends 0 F)) (omega (arith, length-ends 0 F)) in
      let d = end-of-node 0 F k l in
      let z : 0 + k ≡ k = omega arith in
      ap (λ x. get_or x k 0) h.ends ∙ (ap (λ x. get_or (sets E 0 (ends_from 0 F)) x 0) (sym z) ∙ (e ∙ (d ∙ ap (λ x. x + size (get_or (nodes F) k tru)) z)))

  pub noted-class : size F ≤ length C → get_or C' k 0 ≡ class_of (get_or (nodes F) k tru)
  noted-class m =
      let e = get_d_sets C 0 (classes_of F) k 0 (omega (arith, length-classes F)) (omega (arith, length-classes F)) in
      let z : 0 + k ≡ k = omega arith in
      ap (λ x. get_or x k 0) h.classes ∙ (ap (λ x. get_or (sets C 0 (classes_of F)) x 0) (sym z) ∙ (e ∙ class-of-node F k l))

-- The kinds in prepared bytes.
pub kinds_prepared : (n : ℕ) (b : List ℕ) {F : Formula} → prepared_formula n b ≡ some F → kinds_in b (get_or b 0 0) ≡ kinds_of F
kinds_prepared n b {F} e =
    let count = prepared-count n b e in
    let kind : ℕ → ℕ = λ k. get_or b (1 + k * node_slot_length) 0 in
    let long : length (kinds_in b (get_or b 0 0)) ≡ get_or b 0 0 = length-map (up_from 0 (get_or b 0 0)) kind ∙ up_from-length 0 (get_or b 0 0) in
    ext_get_or 1 (kinds_in b (get_or b 0 0)) (kinds_of F) (long ∙ (count ∙ sym (length_kinds F)))
    (λ k l. map-up_from-at kind (get_or b 0 0) k 1 (omega arith) ∙ (ap (λ s. s.kind) (prepared-slot n b e k (omega arith)) ∙ sym (get_or-map kind_of (nodes F) k tru)))

pub length_kinds_in : (b : List ℕ) (n : ℕ) → length (kinds_in b n) ≡ n
length_kinds_in b n = length-map (up_from 0 n) (λ k. get_or b (1 + k * node_slot_length) 0) ∙ up_from-length 0 n

-- A walk over the kinds in a prepared formula leaves its shape.
pub shape_noted : (n : ℕ) (b : List ℕ) {F : Formula} → prepared_formula n b ≡ some F
    → {K E E' C C' : List ℕ} (r : Option Walked) → K ≡ kinds_in b (get_or b 0 0) → Walks K E E' C C' 0 r → Noted E E' C C' F
shape_noted n b {F} e r d h = walk_noted r F (sym (d ∙ kinds_prepared n b e)) h

-- The classes that a walk leaves, as a list.
pub noted-classes : {E E' C C' : List ℕ} (F : Formula) → Noted E E' C C' F → size F ≤ length C → take (size F) C' ≡ classes_of F
noted-classes {C} F h m =
    let z : 0 + length (classes_of F) ≤ length C = omega (arith, length-classes F) in
    ap (take (size F)) (h.classes ∙ sets-eq (classes_of F) C 0 z) ∙ take_at (classes_of F) (drop (0 + length (classes_of F)) C) (size F) (length-classes F)

-- Whether kinds are those of a formula with a class, by a walk from node 0.
class-none : (f : Formula) → arm_of f ≡ 0 → class_of f ≡ 0
class-none f e = sym (class-of_arm f) ∙ ap class_of_arm e

arm_none : (f : Formula) → class_of f ≡ 0 → arm_of f ≡ 0
unfolding class_of
arm_none tru e = absurd (omega arith)
arm_none (not f) e = e
arm_none (or f g) e = e
arm_none (ex c f) e = e
arm_none (ax c f) e = e
arm_none (eu a f) e = e
arm_none (eu_then a b f) e = e

empty_list : (l : List ℕ) → length l ≡ 0 → l ≡ []
empty_list [] e = refl
empty_list (x ∷ l) e = absurd (omega arith)

module _ (b : List ℕ) (count : ℕ) where
  pub not-spelled : ((f : Formula) → Spelled (kinds_in b count) 0 f → ⊥) → SpelledClassed b count → ⊥
  not-spelled h (f, e, n) = h f ([], sym e ∙ sym (append-nil (kinds_of f)))

  module _ {E E' C C' : List ℕ} {end arm : ℕ} (h : Traversed (kinds_in b count) E E' C C' 0 end arm) where
    pub not-ending : (end ≡ count → ⊥) → SpelledClassed b count → ⊥
    not-ending n (f, e, c) =
        let s = same_kinds h.formula f h.spelled.0 (e ∙ h.spelled.1) in
        let a = size_by_kinds h.formula f s in
        let l : size f ≡ count = sym (length_kinds f) ∙ (ap length e ∙ length_kinds_in b count) in
        n (omega (arith, h.behind))

    whole : end ≡ count → kinds_of h.formula ≡ kinds_in b count
    whole e =
        let (rest, s) = h.spelled in
        let long = length_kinds_in b count in
        let z : rest ≡ [] = empty_list rest (omega (arith, simp length-append at (ap length s), length_kinds h.formula, h.behind)) in
        sym (s ∙ (ap (λ l. kinds_of h.formula ++ l) z ∙ append-nil (kinds_of h.formula)))

    pub spelled_decided : end ≡ count → Decides (SpelledClassed b count) (negate (eqb arm 0))
    spelled_decided e = case (eqb arm 0) refl
      where
        case : (t : Bool) → eqb arm 0 ≡ t → Decides (SpelledClassed b count) (negate t)
        case true z =
            let lacks = class-none h.formula (sym h.as_arm_lem ∙ eqb-true arm 0 z) in
            decided_no (λ (f, k, n). n (sym (class_by_kinds h.formula f (whole e ∙ sym k)) ∙ lacks))
        case false z = decided_yes (h.formula, whole e, λ y. eqb-false arm 0 z (h.as_arm_lem ∙ arm_none h.formula y))
