-- A walk over kinds, node by node: what it finds at a node follows from what it finds at the arms.
use mathlib.Core.Path.{◌≡◌, refl, sym, ap, ◌∙◌, subst}
use mathlib.Core.Bool.{cond}
use mathlib.Core.List.{List, ◌∷◌, ◌++◌, map, append_assoc}
use Prim.Native.Nat.{ℕ, zero, suc, ◌+◌, ◌≤◌, ◌<◌}
use native.Mathlib.Numerals.{add-one}
use native.Mathlib.Omega.{arith}
use native.Mathlib.Decide.{dec_lt, dec_le}
use lib.Dec.{leb}
use lib.ListN.{length, get_or, drop, set, length-map, length-append, get_or-eq_default}
use borrow.Author.Tests.{le-leb, lt-leb}
use lib.Seq.{sets, drop-cons, drop-append_seam, drop-drop}
use Rattle.lts.proofs.Lists.{map_append}
use Rattle.actl.specs.Actions.{silent, labels}
use Rattle.actl.specs.Formulas.{Formula, tru, not, or, ex, ax, eu, eu_then, size, nodes, class_of, class_of_or}
use Rattle.actl.specs.inner.Walk.{kind_of, kinds_of, kind_at, arm_of, class_of_arm, class_from, ends_from, classes_of, Traversed}
use Rattle.actl.proofs.Nodes.{length-nodes}
use Rattle.actl.proofs.Laws.Sets.{set_before, sets_append}
use Rattle.actl.proofs.Laws.Table.{class-of-not, class-of-ex, class-of-ax, class-of-eu, class-of-eu_then, class-of-or}

-- The nodes with one arm, by kind.
pub record Unary (kind : ℕ) (node : Formula → Formula) : Type 0 where
  pub kind-of : (f : Formula) → kind_of (node f) ≡ kind
  pub nodes-of : (f : Formula) → nodes (node f) ≡ node f ∷ nodes f
  pub size_of : (f : Formula) → size (node f) ≡ suc (size f)
  pub ends_of : (k : ℕ) (f : Formula) → ends_from k (node f) ≡ (k + 1 + size f) ∷ ends_from (k + 1) f
  pub class-of : (f : Formula) → class_from kind (arm_of f) ≡ class_of (node f)
  pub arm_of_lem : (f : Formula) → arm_of (node f) ≡ class_of (node f)

pub unary : (kind : ℕ) → 2 ≤ kind → kind ≤ 9 → (kind ≡ 3 → ⊥) → (node : Formula → Formula) × Unary kind node
unary zero l h n = absurd (omega arith)
unary (suc zero) l h n = absurd (omega arith)
unary (suc (suc zero)) l h n = (not, record { kind-of = λ f. refl; nodes-of = λ f. refl; size_of = λ f. refl; ends_of = λ k f. refl; class-of = class-of-not; arm_of_lem = λ f. refl })
unary (suc (suc (suc zero))) l h n = absurd (n refl)
unary (suc (suc (suc (suc zero)))) l h n =
    (ex silent, record { kind-of = λ f. refl; nodes-of = λ f. refl; size_of = λ f. refl; ends_of = λ k f. refl; class-of = λ f. class-of-ex f silent; arm_of_lem = λ f. refl })
unary (suc (suc (suc (suc (suc zero))))) l h n =
    (ex (labels 0), record { kind-of = λ f. refl; nodes-of = λ f. refl; size_of = λ f. refl; ends_of = λ k f. refl; class-of = λ f. class-of-ex f (labels 0); arm_of_lem = λ f. refl })
unary (suc (suc (suc (suc (suc (suc zero)))))) l h n =
    (ax silent, record { kind-of = λ f. refl; nodes-of = λ f. refl; size_of = λ f. refl; ends_of = λ k f. refl; class-of = λ f. class-of-ax f silent; arm_of_lem = λ f. refl })
unary (suc (suc (suc (suc (suc (suc (suc zero))))))) l h n =
    (ax (labels 0), record { kind-of = λ f. refl; nodes-of = λ f. refl; size_of = λ f. refl; ends_of = λ k f. refl; class-of = λ f. class-of-ax f (labels 0); arm_of_lem = λ f. refl })
unary (suc (suc (suc (suc (suc (suc (suc (suc zero)))))))) l h n =
    (eu 0, record { kind-of = λ f. refl; nodes-of = λ f. refl; size_of = λ f. refl; ends_of = λ k f. refl; class-of = λ f. class-of-eu f 0; arm_of_lem = λ f. refl })
unary (suc (suc (suc (suc (suc (suc (suc (suc (suc zero))))))))) l h n =
    (eu_then 0 0, record { kind-of = λ f. refl; nodes-of = λ f. refl; size_of = λ f. refl; ends_of = λ k f. refl; class-of = λ f. class-of-eu_then f 0 0; arm_of_lem = λ f. refl })
unary (suc (suc (suc (suc (suc (suc (suc (suc (suc (suc k)))))))))) l h n = absurd (omega arith)

-- How long the lists are.
pub length_kinds : (f : Formula) → length (kinds_of f) ≡ size f
length_kinds f = length-map (nodes f) kind_of ∙ length-nodes f

pub length-classes : (f : Formula) → length (classes_of f) ≡ size f
length-classes f = length-map (nodes f) class_of ∙ length-nodes f

pub length-ends : (k : ℕ) (f : Formula) → length (ends_from k f) ≡ size f
length-ends k tru = refl
length-ends k (not f) = ap suc (length-ends (k + 1) f)
length-ends k (or f g) = ap suc (length-append (ends_from (k + 1) f) (ends_from (k + 1 + size f) g) ∙ (cc (length-ends (k + 1) f, length-ends (k + 1 + size f) g)))
length-ends k (ex c f) = ap suc (length-ends (k + 1) f)
length-ends k (ax c f) = ap suc (length-ends (k + 1) f)
length-ends k (eu a f) = ap suc (length-ends (k + 1) f)
length-ends k (eu_then a b f) = ap suc (length-ends (k + 1) f)

-- What stands behind a part.
pub drop_part : (k : ℕ) (l a : List ℕ) {b : List ℕ} → drop k l ≡ a ++ b → drop (k + length a) l ≡ b
drop_part k l a {b} e = sym (drop-drop (length a) k l) ∙ (ap (drop (length a)) e ∙ drop-append_seam a b)

pub kind-here : (K : List ℕ) (k : ℕ) → k < length K → drop k K ≡ get_or K k 0 ∷ drop (k + 1) K
kind-here K k h = rw add-one (drop-cons K k 0 h)

module _ (K E C : List ℕ) (k : ℕ) (h : k < length K) where
  pub traversed_T : get_or K k 0 ≡ 1 → Traversed K E (set E k (k + 1)) C (set C k 1) k (k + 1) 3
  unfolding class_of
  traversed_T e = record {
    formula = tru;
    spelled = (drop (k + 1) K, kind-here K k h ∙ ap (λ x. x ∷ drop (k + 1) K) e);
    behind = refl;
    as_arm_lem = refl;
    ends_noted = refl;
    classes_noted = refl;
  }

  module _ {E1 C1 : List ℕ} {middle left : ℕ} (arm : Traversed K E E1 C C1 (k + 1) middle left) where
    pub traversed_unary : (kind : ℕ) → 2 ≤ kind → kind ≤ 9 → (kind ≡ 3 → ⊥) → get_or K k 0 ≡ kind
        → Traversed K E (set E1 k middle) C (set C1 k (class_from kind left)) k middle (class_from kind left)
    traversed_unary kind low high other e =
        let (node, u) = unary kind low high other in
        let f = arm.formula in
        let (rest, d) = arm.spelled in
        let b = arm.behind in
        let kinds : kinds_of (node f) ≡ kind ∷ kinds_of f = ap (map kind_of) (u.nodes-of f) ∙ ap (λ x. x ∷ kinds_of f) (u.kind-of f) in
        let class : class_from kind left ≡ class_of (node f) = ap (class_from kind) arm.as_arm_lem ∙ u.class-of f in
        record {
          formula = node f;
          spelled = (rest, kind-here K k h ∙ ((λ i. e i ∷ d i) ∙ sym (ap (λ l. l ++ rest) kinds)));
          behind = omega (arith, u.size_of f);
          as_arm_lem = class ∙ sym (u.arm_of_lem f);
          ends_noted = (λ i. set (arm.ends_noted i) k (b i)) ∙ (set_before E k (k + 1 + size f) (ends_from (k + 1) f) ∙ ap (sets E k) (sym (u.ends_of k f)));
          classes_noted = (λ i. set (arm.classes_noted i) k (class i))
              ∙ (set_before C k (class_of (node f)) (classes_of f) ∙ ap (λ l. sets C k (map class_of l)) (sym (u.nodes-of f)));
        }

    pub traversed_or : {E2 C2 : List ℕ} {end right : ℕ} → get_or K k 0 ≡ 3 → Traversed K E1 E2 C1 C2 middle end right
        → Traversed K E (set E2 k end) C (set C2 k (class_of_or (class_of_arm left) (class_of_arm right))) k end (class_of_or (class_of_arm left) (class_of_arm right))
    traversed_or {E2} {C2} {end} {right} e other =
        let f = arm.formula in
        let g = other.formula in
        let (r, d) = arm.spelled in
        let (rest, a) = other.spelled in
        let b = arm.behind in
        let c = other.behind in
        let m : middle ≡ k + 1 + size f = arm.behind in
        let behindLeft : drop middle K ≡ r = ap (λ x. drop x K) (m ∙ ap (λ x. k + 1 + x) (sym (length_kinds f))) ∙ drop_part (k + 1) K (kinds_of f) d in
        let class : class_of_or (class_of_arm left) (class_of_arm right) ≡ class_of (or f g) =
        (λ i. class_of_or (class_of_arm (arm.as_arm_lem i)) (class_of_arm (other.as_arm_lem i))) ∙ class-of-or f g in
        let both : sets (sets E (k + 1) (ends_from (k + 1) f)) (k + 1 + size f) (ends_from (k + 1 + size f) g) ≡ sets E (k + 1) (ends_from (k + 1) f ++ ends_from (k + 1 + size f) g) =
        ap (λ x. sets (sets E (k + 1) (ends_from (k + 1) f)) (k + 1 + x) (ends_from (k + 1 + size f) g)) (sym (length-ends (k + 1) f))
        ∙ sets_append E (k + 1) (ends_from (k + 1) f) (ends_from (k + 1 + size f) g) in
        let bothClasses : sets (sets C (k + 1) (classes_of f)) (k + 1 + size f) (classes_of g) ≡ sets C (k + 1) (classes_of f ++ classes_of g) =
        ap (λ x. sets (sets C (k + 1) (classes_of f)) (k + 1 + x) (classes_of g)) (sym (length-classes f))
        ∙ sets_append C (k + 1) (classes_of f) (classes_of g) in
        let endsTwo : E2 ≡ sets E (k + 1) (ends_from (k + 1) f ++ ends_from (k + 1 + size f) g) = other.ends_noted ∙ ((λ i. sets (arm.ends_noted i) (m i) (ends_from (m i) g)) ∙ both) in
        let classesTwo : C2 ≡ sets C (k + 1) (classes_of f ++ classes_of g) = other.classes_noted ∙ ((λ i. sets (arm.classes_noted i) (m i) (classes_of g)) ∙ bothClasses) in
        let last : end ≡ k + 1 + size f + size g = omega arith in
        record {
          formula = or f g;
          spelled = (
            rest,
            kind-here K k h ∙ ((λ i. e i ∷ d i) ∙ ap (λ l. 3 ∷ l)
                (ap (λ l. kinds_of f ++ l) (sym behindLeft ∙ a) ∙ (sym (append_assoc (kinds_of f) (kinds_of g) rest) ∙ ap (λ l. l ++ rest) (sym (map_append kind_of (nodes f) (nodes g)))))),
          );
          behind = omega arith;
          as_arm_lem = class;
          ends_noted = (λ i. set (endsTwo i) k (last i)) ∙ set_before E k (k + 1 + size f + size g) (ends_from (k + 1) f ++ ends_from (k + 1 + size f) g);
          classes_noted = (λ i. set (classesTwo i) k (class i))
              ∙ (set_before C k (class_of (or f g)) (classes_of f ++ classes_of g) ∙ ap (λ l. sets C k (class_of (or f g) ∷ l)) (sym (map_append class_of (nodes f) (nodes g))));
        }

pub traversed_noted : {K E X E' C Y C' : List ℕ} {k end arm : ℕ} → E' ≡ X → C' ≡ Y → Traversed K E X C Y k end arm → Traversed K E E' C C' k end arm
traversed_noted {K} {E} {X} {E'} {C} {Y} {C'} {k} {end} {arm} e d h =
    subst (λ l. Traversed K E l C C' k end arm) (sym e) (subst (λ l. Traversed K E X C l k end arm) (sym d) h)

-- What a kind that is known says.
pub record Known (K : List ℕ) (k kind : ℕ) : Type 0 where
  pub inside : k < length K
  pub here : get_or K k 0 ≡ kind
  pub high : kind ≤ 9

pub kind-outside : (K : List ℕ) (k : ℕ) → length K ≤ k → kind_at K k ≡ 0
kind-outside K k h = ap (λ x. cond (leb x 9) x 0) (get_or-eq_default K 0 h)

pub kind_foreign : (K : List ℕ) (k : ℕ) → 9 < get_or K k 0 → kind_at K k ≡ 0
kind_foreign K k h = ap (λ t. cond t (get_or K k 0) 0) (lt-leb (get_or K k 0) 9 h)

pub kind-known : (K : List ℕ) (k : ℕ) → get_or K k 0 ≤ 9 → kind_at K k ≡ get_or K k 0
kind-known K k h = ap (λ t. cond t (get_or K k 0) 0) (le-leb (get_or K k 0) 9 h)

pub known-kind : (K : List ℕ) (k kind : ℕ) → kind ≡ kind_at K k → (kind ≡ 0 → ⊥) → Known K k kind
known-kind K k kind e n = case (dec_lt k (length K)) (dec_le (get_or K k 0) 9)
  where
    case : Dec (k < length K) → Dec (get_or K k 0 ≤ 9) → Known K k kind
    case (no a) b = absurd (n (e ∙ kind-outside K k (omega arith)))
    case (yes a) (no b) = absurd (n (e ∙ kind_foreign K k (omega arith)))
    case (yes a) (yes b) = let d : get_or K k 0 ≡ kind = sym (e ∙ kind-known K k b) in record { inside = a; here = d; high = omega arith }
