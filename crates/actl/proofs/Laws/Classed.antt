-- Classes of nodes: every node has a class exactly if the root has one, and exactly if there is no highest-numbered node without.
use mathlib.Core.Path.{◌≡◌, refl, sym, ap, ◌∙◌}
use mathlib.Core.Logic.{◌⊎◌, inl, inr}
use mathlib.Core.Bool.{Bool, true, false, cond, ◌&&◌}
use mathlib.Core.List.Memᴰ
use mathlib.Core.List.{List, [], ◌∷◌, ◌++◌, map, Memᴰ}
use mathlib.Core.Option.{Option, none, some}
use Prim.Native.Nat.{ℕ, suc, ◌+◌, ◌≤◌, ◌<◌}
use native.Mathlib.Numerals.{add-one}
use native.Mathlib.Omega.{arith}
use lib.Dec.{eqb}
use lib.ListN.{length, get_or, drop, drop_of_length-le}
use lib.Seq.{drop-cons}
use borrow.Author.Tests.{eqb-false, eq-eqb, ne_eqb}
use Rattle.actl.specs.Formulas.{Formula, tru, not, or, ex, ax, eu, eu_then, nodes, is_t, class_of, class_of_or, class_of_all, has_no_class, highest_from, highest_without_class}
use Rattle.actl.specs.inner.Walk.{last_none}

-- A node whose arm has no class has none.
none-all : (f : Formula) → class_of f ≡ 0 → class_of_all (is_t f) (class_of f) ≡ 0
unfolding class_of
none-all tru e = absurd (omega arith)
none-all (not f) e = rw e
none-all (or f g) e = rw e
none-all (ex c f) e = rw e
none-all (ax c f) e = rw e
none-all (eu a f) e = rw e
none-all (eu_then a b f) e = rw e

none_right : (n : ℕ) → class_of_or n 0 ≡ 0
none_right n = by (eqb n 1)
  where
    by : (a : Bool) → ◌≡◌ {A = ℕ} (cond (a && eqb 0 1) 1 0) 0
    by true = refl
    by false = refl

abbrev pub Classed : Formula → Type 0
Classed f = class_of f ≡ 0 → ⊥

all-or : {F f : Formula} {l : List Formula} → Classed F → (Memᴰ f l → Classed f) → Memᴰ f (F ∷ l) → Classed f
all-or {F} {f} {l} c h m = step (Memᴰ.cases_cons m)
  where
    step : (f ≡ F) ⊎ Memᴰ f l → Classed f
    step (inl e) z = c (ap class_of (sym e) ∙ z)
    step (inr n) z = h n z

pub nodes-classed : (F : Formula) → Classed F → (f : Formula) → Memᴰ f (nodes F) → Classed f
unfolding class_of
nodes-classed tru c f m = all-or c (λ n. absurd (Memᴰ.not-nil n)) m
nodes-classed (not g) c f m = all-or c (nodes-classed g (λ z. c (rw z)) f) m
nodes-classed (or g h) c f m = all-or c (both (nodes-classed g (λ z. c (rw z)) f) (nodes-classed h (λ z. c (rw z (none_right (class_of g)))) f)) m
  where
    both : (Memᴰ f (nodes g) → Classed f) → (Memᴰ f (nodes h) → Classed f) → Memᴰ f (nodes g ++ nodes h) → Classed f
    both p q n = elim (Memᴰ.append_cases (nodes g) n) [ inl d ↦ p d | inr d ↦ q d ]
nodes-classed (ex x g) c f m = all-or c (nodes-classed g (λ z. c (rw z)) f) m
nodes-classed (ax x g) c f m = all-or c (nodes-classed g (λ z. c (none-all g z)) f) m
nodes-classed (eu a g) c f m = all-or c (nodes-classed g (λ z. c (rw z)) f) m
nodes-classed (eu_then a b g) c f m = all-or c (nodes-classed g (λ z. c (rw z)) f) m

pub root_among_nodes : (F : Formula) → Memᴰ F (nodes F)
root_among_nodes tru = Memᴰ.head refl
root_among_nodes (not f) = Memᴰ.head refl
root_among_nodes (or f g) = Memᴰ.head refl
root_among_nodes (ex c f) = Memᴰ.head refl
root_among_nodes (ax c f) = Memᴰ.head refl
root_among_nodes (eu a f) = Memᴰ.head refl
root_among_nodes (eu_then a b f) = Memᴰ.head refl

-- No highest one.
none_found : (k : ℕ) (l : List Formula) (found : Option ℕ) → highest_from k l found ≡ none → (found ≡ none) × ((f : Formula) → Memᴰ f l → Classed f)
none_found k [] found e = (e, λ f m. absurd (Memᴰ.not-nil m))
none_found k (g ∷ l) found e = step (has_no_class g) refl (none_found (suc k) l (cond (has_no_class g) (some k) found) e)
  where
    step : (t : Bool) → has_no_class g ≡ t → (cond (has_no_class g) (some k) found ≡ none) × ((f : Formula) → Memᴰ f l → Classed f)
        → (found ≡ none) × ((f : Formula) → Memᴰ f (g ∷ l) → Classed f)
    step true d h = let z : ◌≡◌ {A = Option ℕ} (some k) none = rw d at h.0 in let y : ◌≡◌ {A = ℕ} 0 1 = cc in absurd (omega arith)
    step false d h = (rw d at h.0, λ f m. all-or (eqb-false (class_of g) 0 d) (h.1 f) m)

pub all-classed : (F : Formula) → highest_without_class F ≡ none → (f : Formula) → Memᴰ f (nodes F) → Classed f
unfolding highest_without_class
all-classed F e = (none_found 0 (nodes F) none e).1

-- The last class that is none, found from the front: what is left, with the last one so far. It is the length as long as there is none.
abbrev so_far : ℕ → ℕ → Option ℕ
so_far count found = cond (eqb found count) none (some found)

abbrev pub Remains : List ℕ → ℕ → ℕ → Type 0
Remains classes found k = last_none k (drop k classes) (so_far (length classes) found) ≡ last_none 0 classes none

module _ (classes : List ℕ) where
  pub remains_all : Remains classes (length classes) 0
  remains_all = ap (λ t. last_none 0 classes (cond t none (some (length classes)))) (eq-eqb (length classes) (length classes) refl)

  step : (found k : ℕ) → k < length classes → Remains classes found k
      → last_none (suc k) (drop (k + 1) classes) (cond (eqb (get_or classes k 0) 0) (some k) (so_far (length classes) found)) ≡ last_none 0 classes none
  step found k h e = rw add-one (sym (ap (λ l. last_none k l (so_far (length classes) found)) (drop-cons classes k 0 h)) ∙ e)

  pub remains_none : (found k : ℕ) → k < length classes → get_or classes k 0 ≡ 0 → Remains classes found k → Remains classes k (k + 1)
  remains_none found k h z e =
      let s = step found k h e in
      let a : cond (eqb (get_or classes k 0) 0) (some k) (so_far (length classes) found) ≡ so_far (length classes) k =
      ap (λ t. cond t (some k) (so_far (length classes) found)) (eq-eqb (get_or classes k 0) 0 z) ∙ sym (ap (λ t. cond t none (some k)) (ne_eqb k (length classes) (λ d. omega arith))) in
      let b : k + 1 ≡ suc k = add-one k in
      (λ i. last_none (b i) (drop (k + 1) classes) (sym a i)) ∙ s

  pub remains_some : (found k : ℕ) → k < length classes → (get_or classes k 0 ≡ 0 → ⊥) → Remains classes found k → Remains classes found (k + 1)
  remains_some found k h z e =
      let s = step found k h e in
      let a : cond (eqb (get_or classes k 0) 0) (some k) (so_far (length classes) found) ≡ so_far (length classes) found =
      ap (λ t. cond t (some k) (so_far (length classes) found)) (ne_eqb (get_or classes k 0) 0 z) in
      let b : k + 1 ≡ suc k = add-one k in
      (λ i. last_none (b i) (drop (k + 1) classes) (sym a i)) ∙ s

  pub remains_end : (found k : ℕ) → length classes ≤ k → Remains classes found k → so_far (length classes) found ≡ last_none 0 classes none
  remains_end found k h e = sym (ap (λ l. last_none k l (so_far (length classes) found)) (drop_of_length-le classes h)) ∙ e

-- Of a formula's classes it is the highest-numbered node without.
pub highest_none : (k : ℕ) (l : List Formula) (found : Option ℕ) → last_none k (map class_of l) found ≡ highest_from k l found
highest_none k [] found = refl
highest_none k (f ∷ l) found = highest_none (suc k) l (cond (has_no_class f) (some k) found)
