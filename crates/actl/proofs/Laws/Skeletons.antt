-- A formula without its masks is given by its kinds, and has the same ends and classes.
use mathlib.Core.Path.{◌≡◌, refl, sym, ap, ◌∙◌}
use mathlib.Core.List.{[], ◌∷◌, ◌++◌, map}
use mathlib.Core.Option.{some}
use Prim.Native.Nat.{ℕ, suc, ◌+◌}
use Rattle.lts.proofs.Lists.{map_append}
use Rattle.actl.specs.Actions.{Cond, silent, labels}
use Rattle.actl.specs.Formulas.{Formula, tru, not, or, ex, ax, eu, eu_then, size, nodes, is_t, class_of, class_of_not, class_of_or, class_of_some, class_of_all}
use Rattle.actl.specs.Prepared.{Slot, slot, slot_of}
use Rattle.actl.specs.inner.Prepared.{trees_in}
use Rattle.actl.specs.inner.Walk.{kind_of, kinds_of, ends_from, classes_of}
use Rattle.actl.proofs.Laws.Polish.{tree-of-slots}

abbrev skeleton_cond : Cond → Cond
skeleton_cond silent = silent
skeleton_cond (labels m) = labels 0

abbrev skeleton : Formula → Formula
skeleton tru = tru
skeleton (not f) = not (skeleton f)
skeleton (or f g) = or (skeleton f) (skeleton g)
skeleton (ex c f) = ex (skeleton_cond c) (skeleton f)
skeleton (ax c f) = ax (skeleton_cond c) (skeleton f)
skeleton (eu a f) = eu 0 (skeleton f)
skeleton (eu_then a b f) = eu_then 0 0 (skeleton f)

abbrev skeleton_slot : ℕ → Slot
skeleton_slot kind = slot kind 0 0

skeleton_slots : (f : Formula) → map slot_of (nodes (skeleton f)) ≡ map skeleton_slot (kinds_of f)
skeleton_slots tru = refl
skeleton_slots (not f) = ap (λ l. slot 2 0 0 ∷ l) (skeleton_slots f)
skeleton_slots (or f g) = ap (λ l. slot 3 0 0 ∷ l)
    (map_append slot_of (nodes (skeleton f)) (nodes (skeleton g))
    ∙ ((λ i. skeleton_slots f i ++ skeleton_slots g i) ∙ sym (ap (map skeleton_slot) (map_append kind_of (nodes f) (nodes g)) ∙ map_append skeleton_slot (kinds_of f) (kinds_of g))))
skeleton_slots (ex silent f) = ap (λ l. slot 4 0 0 ∷ l) (skeleton_slots f)
skeleton_slots (ex (labels m) f) = ap (λ l. slot 5 0 0 ∷ l) (skeleton_slots f)
skeleton_slots (ax silent f) = ap (λ l. slot 6 0 0 ∷ l) (skeleton_slots f)
skeleton_slots (ax (labels m) f) = ap (λ l. slot 7 0 0 ∷ l) (skeleton_slots f)
skeleton_slots (eu a f) = ap (λ l. slot 8 0 0 ∷ l) (skeleton_slots f)
skeleton_slots (eu_then a b f) = ap (λ l. slot 9 0 0 ∷ l) (skeleton_slots f)

skeleton_tree : (f : Formula) → trees_in (map skeleton_slot (kinds_of f)) ≡ some (skeleton f ∷ [])
skeleton_tree f = ap trees_in (sym (skeleton_slots f)) ∙ tree-of-slots (skeleton f)

skeleton_unique : (f g : Formula) → kinds_of f ≡ kinds_of g → skeleton f ≡ skeleton g
skeleton_unique f g e =
    let p : some (skeleton f ∷ []) ≡ some (skeleton g ∷ []) = sym (skeleton_tree f) ∙ (ap (λ l. trees_in (map skeleton_slot l)) e ∙ skeleton_tree g) in
    cc

skeleton_size : (f : Formula) → size (skeleton f) ≡ size f
skeleton_size tru = refl
skeleton_size (not f) = ap suc (skeleton_size f)
skeleton_size (or f g) = λ i. suc (skeleton_size f i + skeleton_size g i)
skeleton_size (ex c f) = ap suc (skeleton_size f)
skeleton_size (ax c f) = ap suc (skeleton_size f)
skeleton_size (eu a f) = ap suc (skeleton_size f)
skeleton_size (eu_then a b f) = ap suc (skeleton_size f)

skeleton_T : (f : Formula) → is_t (skeleton f) ≡ is_t f
skeleton_T tru = refl
skeleton_T (not f) = refl
skeleton_T (or f g) = refl
skeleton_T (ex c f) = refl
skeleton_T (ax c f) = refl
skeleton_T (eu a f) = refl
skeleton_T (eu_then a b f) = refl

skeleton_class : (f : Formula) → class_of (skeleton f) ≡ class_of f
unfolding class_of
skeleton_class tru = refl
skeleton_class (not f) = ap class_of_not (skeleton_class f)
skeleton_class (or f g) = λ i. class_of_or (skeleton_class f i) (skeleton_class g i)
skeleton_class (ex c f) = ap class_of_some (skeleton_class f)
skeleton_class (ax c f) = λ i. class_of_all (skeleton_T f i) (skeleton_class f i)
skeleton_class (eu a f) = ap class_of_some (skeleton_class f)
skeleton_class (eu_then a b f) = ap class_of_some (skeleton_class f)

skeleton_ends : (k : ℕ) (f : Formula) → ends_from k (skeleton f) ≡ ends_from k f
skeleton_ends k tru = refl
skeleton_ends k (not f) = λ i. (k + 1 + skeleton_size f i) ∷ skeleton_ends (k + 1) f i
skeleton_ends k (or f g) =
    (λ i. (k + 1 + skeleton_size f i + skeleton_size g i) ∷ (skeleton_ends (k + 1) f i ++ ends_from (k + 1 + skeleton_size f i) (skeleton g)))
    ∙ ap (λ l. (k + 1 + size f + size g) ∷ (ends_from (k + 1) f ++ l)) (skeleton_ends (k + 1 + size f) g)
skeleton_ends k (ex c f) = λ i. (k + 1 + skeleton_size f i) ∷ skeleton_ends (k + 1) f i
skeleton_ends k (ax c f) = λ i. (k + 1 + skeleton_size f i) ∷ skeleton_ends (k + 1) f i
skeleton_ends k (eu a f) = λ i. (k + 1 + skeleton_size f i) ∷ skeleton_ends (k + 1) f i
skeleton_ends k (eu_then a b f) = λ i. (k + 1 + skeleton_size f i) ∷ skeleton_ends (k + 1) f i

skeleton_classes : (f : Formula) → classes_of (skeleton f) ≡ classes_of f
skeleton_classes tru = refl
skeleton_classes (not f) = λ i. skeleton_class (not f) i ∷ skeleton_classes f i
skeleton_classes (or f g) =
    (λ i. skeleton_class (or f g) i ∷ map_append class_of (nodes (skeleton f)) (nodes (skeleton g)) i)
    ∙ ((λ i. class_of (or f g) ∷ (skeleton_classes f i ++ skeleton_classes g i)) ∙ ap (λ l. class_of (or f g) ∷ l) (sym (map_append class_of (nodes f) (nodes g))))
skeleton_classes (ex c f) = λ i. skeleton_class (ex c f) i ∷ skeleton_classes f i
skeleton_classes (ax c f) = λ i. skeleton_class (ax c f) i ∷ skeleton_classes f i
skeleton_classes (eu a f) = λ i. skeleton_class (eu a f) i ∷ skeleton_classes f i
skeleton_classes (eu_then a b f) = λ i. skeleton_class (eu_then a b f) i ∷ skeleton_classes f i

-- So kinds give all of these.
module _ (f g : Formula) (e : kinds_of f ≡ kinds_of g) where
  pub size_by_kinds : size f ≡ size g
  size_by_kinds = sym (skeleton_size f) ∙ (ap size (skeleton_unique f g e) ∙ skeleton_size g)

  pub class_by_kinds : class_of f ≡ class_of g
  class_by_kinds = sym (skeleton_class f) ∙ (ap class_of (skeleton_unique f g e) ∙ skeleton_class g)

  pub ends_by_kinds : (k : ℕ) → ends_from k f ≡ ends_from k g
  ends_by_kinds k = sym (skeleton_ends k f) ∙ (ap (ends_from k) (skeleton_unique f g e) ∙ skeleton_ends k g)

  pub classes_by_kinds : classes_of f ≡ classes_of g
  classes_by_kinds = sym (skeleton_classes f) ∙ (ap classes_of (skeleton_unique f g e) ∙ skeleton_classes g)
