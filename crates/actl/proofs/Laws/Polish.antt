-- Polish notation: the slots of a formula's nodes, in order, decode to the formula, and slots that decode are those of its nodes, but
-- for masks that their kind does not have.
use mathlib.Core.Path.{◌≡◌, refl, sym, ap, ◌∙◌}
use mathlib.Core.Logic.{◌⊎◌, inl, inr}
use mathlib.Core.Bool.{Bool, true, false, cond}
use mathlib.Core.List.{List, [], ◌∷◌, ◌++◌, map, append_assoc, append-nil}
use mathlib.Core.Option.{Option, none, some}
use Prim.Native.Nat.{ℕ}
use native.Mathlib.Omega.{arith}
use lib.Dec.{eqb}
use borrow.Author.Tests.{eqb-true}
use Rattle.lts.specs.Lists.{bind}
use Rattle.lts.proofs.Lists.{map_append}
use Rattle.actl.specs.Actions.{Mask, silent, labels}
use Rattle.actl.specs.Formulas.{Formula, tru, not, or, ex, ax, eu, eu_then, nodes}
use Rattle.actl.specs.Prepared.{Slot, slot, slot_of}
use Rattle.actl.specs.inner.Prepared.{push, push_on, trees_in, one, two, chosen}
use Rattle.actl.specs.inner.Shaped.{first_used, second_used}

-- A slot without the masks that its kind does not have.
abbrev cleaned : ℕ → Mask → Mask → Slot
cleaned kind first second = slot kind (cond (first_used kind) first 0) (cond (second_used kind) second 0)

abbrev pub clean : Slot → Slot
clean s = cleaned s.kind s.first s.second

abbrev pub slots_of : List Formula → List Slot
slots_of l = map slot_of (bind nodes l)

-- From the slots to the formula.
pub trees_to : (f : Formula) (rest : List Slot) {l : List Formula} → trees_in rest ≡ some l → trees_in (map slot_of (nodes f) ++ rest) ≡ some (f ∷ l)
unfolding push
trees_to tru rest e = ap (push_on (slot_of tru)) e
trees_to (not f) rest e = ap (push_on (slot_of (not f))) (trees_to f rest e)
trees_to (or f g) rest e =
    ap (push_on (slot_of (or f g)))
    (ap trees_in (ap (λ z. z ++ rest) (map_append slot_of (nodes f) (nodes g)) ∙ append_assoc (map slot_of (nodes f)) (map slot_of (nodes g)) rest)
    ∙ trees_to f (map slot_of (nodes g) ++ rest) (trees_to g rest e))
trees_to (ex silent f) rest e = ap (push_on (slot_of (ex silent f))) (trees_to f rest e)
trees_to (ex (labels m) f) rest e = ap (push_on (slot_of (ex (labels m) f))) (trees_to f rest e)
trees_to (ax silent f) rest e = ap (push_on (slot_of (ax silent f))) (trees_to f rest e)
trees_to (ax (labels m) f) rest e = ap (push_on (slot_of (ax (labels m) f))) (trees_to f rest e)
trees_to (eu a f) rest e = ap (push_on (slot_of (eu a f))) (trees_to f rest e)
trees_to (eu_then a b f) rest e = ap (push_on (slot_of (eu_then a b f))) (trees_to f rest e)

pub tree-of-slots : (f : Formula) → trees_in (map slot_of (nodes f)) ≡ some (f ∷ [])
tree-of-slots f = ap trees_in (sym (append-nil (map slot_of (nodes f)))) ∙ trees_to f [] refl

-- From the formula to the slots.
kind-chosen : (k j : ℕ) {this other : Option (List Formula)} {m : List Formula} → chosen k j this other ≡ some m
    → ((k ≡ j) × (this ≡ some m)) ⊎ (other ≡ some m)
kind-chosen k j {this} {other} {m} e = case (eqb k j) refl e
  where
    case : (t : Bool) → eqb k j ≡ t → cond t this other ≡ some m → ((k ≡ j) × (this ≡ some m)) ⊎ (other ≡ some m)
    case true d e = inl (eqb-true k j d, e)
    case false d e = inr e

module _ (s : Slot) where
  abbrev Pushed : List Formula → List Formula → Type 0
  Pushed l m = clean s ∷ slots_of l ≡ slots_of m

  of_one : (node : Formula → Formula) → ((f : Formula) → nodes (node f) ≡ node f ∷ nodes f) → ((f : Formula) → clean s ≡ slot_of (node f))
      → (l : List Formula) {m : List Formula} → one node l ≡ some m → Pushed l m
  of_one node h g [] e = let z : ◌≡◌ {A = ℕ} 0 1 = cc in absurd (omega arith)
  of_one node h g (f ∷ l) {m} e =
      let d : m ≡ node f ∷ l = cc in
      rw (d, h f) (ap (λ x. x ∷ slots_of (f ∷ l)) (g f))

  of_two : ((f g : Formula) → clean s ≡ slot_of (or f g)) → (l : List Formula) {m : List Formula} → two or l ≡ some m → Pushed l m
  of_two h [] e = let z : ◌≡◌ {A = ℕ} 0 1 = cc in absurd (omega arith)
  of_two h (f ∷ []) e = let z : ◌≡◌ {A = ℕ} 0 1 = cc in absurd (omega arith)
  of_two h (f ∷ g ∷ l) {m} e =
      let d : m ≡ or f g ∷ l = cc in
      rw (d, append_assoc (nodes f) (nodes g) (bind nodes l)) (ap (λ x. x ∷ slots_of (f ∷ g ∷ l)) (h f g))

  kind-is : {k : ℕ} → s.kind ≡ k → clean s ≡ cleaned k s.first s.second
  kind-is e = ap (λ k. cleaned k s.first s.second) e

  push-of : (l : List Formula) {m : List Formula} → push s l ≡ some m → Pushed l m
  unfolding push
  push-of l {m} e =
      elim (kind-chosen s.kind 1 e) [
        | inl (k, d) ↦ (let c : m ≡ tru ∷ l = cc in rw c (ap (λ x. x ∷ slots_of l) (kind-is k)))
        | inr e ↦ elim (kind-chosen s.kind 2 e) [
          | inl (k, d) ↦ of_one not (λ f. refl) (λ f. kind-is k) l d
          | inr e ↦ elim (kind-chosen s.kind 3 e) [
            | inl (k, d) ↦ of_two (λ f g. kind-is k) l d
            | inr e ↦ elim (kind-chosen s.kind 4 e) [
              | inl (k, d) ↦ of_one (ex silent) (λ f. refl) (λ f. kind-is k) l d
              | inr e ↦ elim (kind-chosen s.kind 5 e) [
                | inl (k, d) ↦ of_one (ex (labels s.first)) (λ f. refl) (λ f. kind-is k) l d
                | inr e ↦ elim (kind-chosen s.kind 6 e) [
                  | inl (k, d) ↦ of_one (ax silent) (λ f. refl) (λ f. kind-is k) l d
                  | inr e ↦ elim (kind-chosen s.kind 7 e) [
                    | inl (k, d) ↦ of_one (ax (labels s.first)) (λ f. refl) (λ f. kind-is k) l d
                    | inr e ↦ elim (kind-chosen s.kind 8 e) [
                      | inl (k, d) ↦ of_one (eu s.first) (λ f. refl) (λ f. kind-is k) l d
                      | inr e ↦ elim (kind-chosen s.kind 9 e) [
                        | inl (k, d) ↦ of_one (eu_then s.first s.second) (λ f. refl) (λ f. kind-is k) l d
                        | inr e ↦ (let z : ◌≡◌ {A = ℕ} 0 1 = cc in absurd (omega arith))
                      ]
                    ]
                  ]
                ]
              ]
            ]
          ]
        ]
      ]

push-on-of : (s : Slot) (o : Option (List Formula)) {m : List Formula} → push_on s o ≡ some m → (l : List Formula) × (o ≡ some l) × (push s l ≡ some m)
push-on-of s none e = let z : ◌≡◌ {A = ℕ} 0 1 = cc in absurd (omega arith)
push-on-of s (some l) e = (l, refl, e)

pub trees_of : (slots : List Slot) {m : List Formula} → trees_in slots ≡ some m → map clean slots ≡ slots_of m
trees_of [] {m} e = let d : m ≡ [] = cc in ap slots_of (sym d)
trees_of (s ∷ slots) e =
    let (l, d, g) = push-on-of s (trees_in slots) e in
    ap (λ x. clean s ∷ x) (trees_of slots d) ∙ push-of s l g
