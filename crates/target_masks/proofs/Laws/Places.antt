-- The masks and final places of a prepared formula, place by place from the last one: a store keeps the others and adds one.
use mathlib.Core.Path.{◌≡◌, refl, sym, ap, ◌∙◌, subst}
use mathlib.Core.Logic.{inl, inr}
use mathlib.Core.Bool.{Bool, true, false, cond}
use mathlib.Core.List.{List, [], ◌∷◌}
use mathlib.Core.Option.{some}
use Prim.Native.Nat.{ℕ, zero, suc, ◌+◌, ◌-◌, ◌*◌, ◌^◌, ◌<◌, ◌≤◌}
use native.Mathlib.Decide.{ℕ_discrete}
use native.Mathlib.Omega.{arith}
use lib.Dec.{eqb}
use borrow.Author.Tests.{eq-eqb, ne_eqb}
use lib.ListN.{length, get_or, set, length-set, replicate}
use lib.Seq.{get_or-set_same, get_or-set_other}
use Rattle.actl.specs.Sizes.{most_nodes}
use Rattle.automaton.specs.inner.Sizes.{place_count, column_count, masks_length}
use Rattle.lts.specs.Sizes.{most_labels}
use Rattle.lts.specs.Idle.{idle_label}
use Rattle.lts.specs.inner.Steps.{Carried}
use Rattle.lts.proofs.Silence.{zero-silent, idle_silent}
use Rattle.actl.specs.Formulas.{Formula, size, is_t}
use Rattle.actl.specs.inner.Prepared.{slot_at, prepared_formula}
use Rattle.formulas.specs.inner.Access.{slot_of_node}
use Rattle.actl.specs.inner.Shaped.{shaped}
use Rattle.formula_classes.specs.inner.WalkReplies.{ShapeOf}
use Rattle.formula_classes.specs.declared.Shape.{Shape}
use Rattle.formulas.specs.declared.node.Node.{Node}
use Rattle.actl.proofs.Subformulas.{at-node}
use Rattle.formulas.proofs.NodeSlots.{T_by_kind}
use Rattle.actl.proofs.Laws.Slots.{node-shaped}
use Rattle.actl.proofs.Laws.Prepared.{prepared-few, prepared-count, prepared-slot}
use Rattle.automaton.specs.inner.Search.{node_at, final}
use Rattle.target_masks.specs.inner.Masks.{column_of, mask_on, target_mask, mask_of_node, final_of_node, Spells, MasksFit, MasksOf, MasksOn, FinalsOf}
use Rattle.target_masks.proofs.Laws.MasksFound.{masks_alike, mask-past, target_fits, node-mask-is, final-past, node-final-is}

-- A prepared formula, with the shape that was found of it.
pub spells : (n : ℕ) (b : List ℕ) {F : Formula} (e : prepared_formula n b ≡ some F) (s : Shape) → ShapeOf s F → Spells b s.ends F
spells n b e s h = record { count = prepared-count n b e; few = prepared-few n b e; slot = prepared-slot n b e; end = h.ends }

-- The column of a label: that of label 0 for the idle step, and else its own.
pub idle_column : (l : ℕ) → l ≡ idle_label → column_of l ≡ 0
idle_column l e = ap (λ b. cond b 0 l) (eq-eqb l idle_label e)

pub own-column : (l : ℕ) → (l ≡ idle_label → ⊥) → column_of l ≡ l
own-column l n = ap (λ b. cond b 0 l) (ne_eqb l idle_label n)

-- A number stored in a list of numbers below a bound.
set_below : (l : List ℕ) (n v m : ℕ) → v < m → ((i : ℕ) → get_or l i 0 < m) → (i : ℕ) → get_or (set l n v) i 0 < m
set_below [] n v m h f i = f i
set_below (x ∷ l) zero v m h f zero = h
set_below (x ∷ l) zero v m h f (suc i) = f (suc i)
set_below (x ∷ l) (suc n) v m h f zero = f 0
set_below (x ∷ l) (suc n) v m h f (suc i) = set_below l n v m h (λ j. f (suc j)) i

module _ {b ends : List ℕ} {F : Formula} (p : Spells b ends F) (k : ℕ) (h : k < get_or b 0 0) where
  below : k < size F
  below = omega (arith, p.count)

  pub place-few : k < most_nodes
  place-few = omega (arith, p.count, p.few)

  pub place-shaped : shaped (slot_at b k) ≡ true
  place-shaped = ap shaped (p.slot k below) ∙ node-shaped (node_at F k)

  -- The arms as the code finds them.
  module _ (right : ℕ) (r : k + 1 < most_nodes → get_or ends (k + 1) 0 ≤ 40 → right ≡ get_or ends (k + 1) 0) where
    right_is : k + 1 < size F → k + 1 + size (node_at F (k + 1)) < size F → right ≡ k + 1 + size (node_at F (k + 1))
    right_is x y = let e = p.end (k + 1) x in r (omega (arith, p.few)) (omega (arith, p.few)) ∙ e

    module _ (masks : List ℕ) (l : ℕ) (m : MasksOn F k l masks) (c : l < place_count)
        (node : Node) (s : slot_of_node node ≡ slot_at b k) (end : ℕ) (e : end ≡ get_or b 0 0)
        (last : Bool) (t : k + 1 < most_nodes → last ≡ eqb (slot_at b (k + 1)).kind 1) where
      abbrev arm : ℕ
      arm = get_or masks ((k + 1) * column_count + l) 0

      abbrev other : ℕ
      other = get_or masks (right * column_count + l) 0

      abbrev mask : ℕ
      mask = mask_of_node node end k l last arm other

      T_is : k + 1 < size F → last ≡ is_t (node_at F (k + 1))
      T_is x = t (omega (arith, p.few)) ∙ (ap (λ z. eqb z.kind 1) (p.slot (k + 1) x) ∙ T_by_kind (node_at F (k + 1)))

      mask_is : mask ≡ target_mask F k l
      mask_is =
          ap (λ n. mask_of_node node n k l last arm other) (e ∙ p.count)
          ∙ node-mask-is l arm other last
          (λ x. m.behind.mask (k + 1) l (omega arith) (omega arith) (omega arith))
          (λ x y. ap (λ q. get_or masks (q * column_count + l) 0) (right_is x y)
          ∙ m.behind.mask (k + 1 + size (node_at F (k + 1))) l (omega arith) (omega arith) (omega arith))
          T_is node (node_at F k) (at-node F k below) (s ∙ p.slot k below)

      masks_turn : (v : ℕ) → v ≡ mask → MasksOn F k (l + 1) (set masks (k * column_count + l) v)
      masks_turn v q = record {
        long = length-set masks (k * column_count + l) v ∙ m.long;
        behind = record {
          mask = λ j i x y z. get_or-set_other masks (k * column_count + l) (j * column_count + i) v 0 (λ u. omega arith) ∙ m.behind.mask j i x y z;
        };
        here = λ i x. pick i x (ℕ_discrete i l);
        fit =
            let low = subst (λ n. n < 2 ^ place_count) (sym (q ∙ mask_is)) (target_fits F k l p.few) in
            set_below masks (k * column_count + l) v (2 ^ place_count) low m.fit;
      }
        where
          pick : (i : ℕ) → i < l + 1 → Dec (i ≡ l) → get_or (set masks (k * column_count + l) v) (k * column_count + i) 0 ≡ target_mask F k i
          pick i x (yes d) =
              ap (λ n. get_or (set masks (k * column_count + l) v) (k * column_count + n) 0) d
              ∙ (get_or-set_same masks (k * column_count + l) v 0 (omega (arith, m.long, place-few)) ∙ (q ∙ (mask_is ∙ ap (target_mask F k) (sym d))))
          pick i x (no d) = get_or-set_other masks (k * column_count + l) (k * column_count + i) v 0 (λ u. d (omega arith)) ∙ m.here i (omega arith)

      -- The same in the column that the code found.
      abbrev mask_by : ℕ → ℕ
      mask_by at = mask_of_node node end k l last (get_or masks ((k + 1) * column_count + at) 0) (get_or masks (right * column_count + at) 0)

      pub masks_turn_at : (at : ℕ) → at ≡ column_of l → (v : ℕ) → v ≡ mask_by at → MasksOn F k (l + 1) (set masks (k * column_count + at) v)
      masks_turn_at at d v = subst
          (λ x. v ≡ mask_by x → MasksOn F k (l + 1) (set masks (k * column_count + x) v))
          (sym (d ∙ own-column l (λ e. omega arith)))
          (masks_turn v)

    -- The flag of place k, from those behind.
    module _ (finals : List Bool) (m : FinalsOf F (k + 1) finals) (node : Node) (s : slot_of_node node ≡ slot_at b k) where
      abbrev flag : Bool
      flag = final_of_node node (get_or finals (k + 1) false) (get_or finals right false)

      flag_is : flag ≡ final F k
      flag_is = node-final-is (get_or finals (k + 1) false) (get_or finals right false)
          (λ x. m.flag (k + 1) (omega arith) (omega arith))
          (λ x y. ap (λ q. get_or finals q false) (right_is x y) ∙ m.flag (k + 1 + size (node_at F (k + 1))) (omega arith) (omega arith))
          node (node_at F k) (at-node F k below) (s ∙ p.slot k below)

      pub finals_turn : (v : Bool) → v ≡ flag → FinalsOf F k (set finals k v)
      finals_turn v q = record { long = length-set finals k v ∙ m.long; flag = λ j x y. pick j x y (ℕ_discrete j k) }
        where
          pick : (j : ℕ) → k ≤ j → j ≤ size F → Dec (j ≡ k) → get_or (set finals k v) j false ≡ final F j
          pick j x y (yes d) =
              ap (λ n. get_or (set finals k v) n false) d
              ∙ (get_or-set_same finals k v false (omega (arith, m.long, place-few)) ∙ (q ∙ (flag_is ∙ ap (final F) (sym d))))
          pick j x y (no d) = get_or-set_other finals k j v false (λ u. d (omega arith)) ∙ m.flag j (omega arith) y

-- A whole place, and the next one; the start, where every mask is zero.
pub masks_next : {F : Formula} {k : ℕ} {masks : List ℕ} → MasksOn F k column_count masks → MasksOf F k masks
masks_next {F} {k} {masks} m = record { mask = λ j l x y z. pick j l x y z (ℕ_discrete j k) }
  where
    pick : (j l : ℕ) → k ≤ j → j ≤ size F → l ≤ most_labels → Dec (j ≡ k) → get_or masks (j * column_count + l) 0 ≡ target_mask F j l
    pick j l x y z (yes d) = ap (λ n. get_or masks (n * column_count + l) 0) d ∙ (m.here l (omega arith) ∙ ap (λ n. target_mask F n l) (sym d))
    pick j l x y z (no d) = m.behind.mask j l (omega arith) y z

-- The mask of every label that a step may carry.
pub mask-carried : {F : Formula} {k : ℕ} {masks : List ℕ} → MasksOf F k masks → (j l : ℕ) → k ≤ j → j ≤ size F → Carried l → mask_on masks j l ≡ target_mask F j l
mask-carried {F} {k} {masks} m j l x y (inl h) = ap (λ n. get_or masks (j * column_count + n) 0) (own-column l (λ e. omega arith)) ∙ m.mask j l x y h
mask-carried {F} {k} {masks} m j l x y (inr e) =
    ap (λ n. get_or masks (j * column_count + n) 0) (idle_column l e)
    ∙ (m.mask j 0 x y (omega arith) ∙ (masks_alike 0 idle_label zero-silent idle_silent F j ∙ ap (target_mask F j) (sym e)))

pub masks_before : {F : Formula} (k : ℕ) {masks : List ℕ} → length masks ≡ masks_length → MasksFit masks → MasksOf F (k + 1) masks → MasksOn F k 0 masks
masks_before k e f m = record { long = e; behind = m; here = λ i x. absurd (omega arith); fit = f }

pub masks_end : (F : Formula) (masks : List ℕ) → ((i : ℕ) → get_or masks i 0 ≡ 0) → MasksOf F (size F) masks
masks_end F masks h = record { mask = λ j l x y z. h (j * column_count + l) ∙ sym (mask-past F j l x) }

pub finals_end : (F : Formula) (finals : List Bool) → length finals ≡ place_count → ((i : ℕ) → i < place_count → get_or finals i false ≡ true)
    → size F ≤ most_nodes → FinalsOf F (size F) finals
finals_end F finals e h few = record { long = e; flag = λ j x y. h j (omega arith) ∙ sym (final-past F j x) }

-- Fresh arrays.
pub zeros-at : (n i : ℕ) → ◌≡◌ {A = ℕ} (get_or (replicate n 0) i 0) 0
zeros-at zero i = refl
zeros-at (suc n) zero = refl
zeros-at (suc n) (suc i) = zeros-at n i

-- Place k - 1, where those from k on are done.
pub masks_from : {F : Formula} {k : ℕ} {masks : List ℕ} → 0 < k → length masks ≡ masks_length → MasksFit masks → MasksOf F k masks → MasksOn F (k - 1) 0 masks
masks_from {F} {k} {masks} h e f m = let z : k ≡ k - 1 + 1 = omega arith in masks_before (k - 1) e f (subst (λ j. MasksOf F j masks) z m)

pub finals_from : {F : Formula} {k : ℕ} {finals : List Bool} → 0 < k → FinalsOf F k finals → FinalsOf F (k - 1 + 1) finals
finals_from {F} {k} {finals} h m = let z : k ≡ k - 1 + 1 = omega arith in subst (λ j. FinalsOf F j finals) z m
