-- The prepared bytes of a formula (docs/FORMATS.md), and which bytes are "the one form".
use Rattle.std.specs.Prelude.{◌≡◌, Bool, true, ◌&&◌, ℕ, suc, ◌*◌, ◌^◌, ◌%◌, ◌≤◌, ltb, eqb, take}
use mathlib.Core.List.{List, ◌∷◌, ◌++◌, Memᴰ}
use Rattle.actl.specs.Sizes.{most_nodes, node_slot_length, formula_length}
use Rattle.columns.specs.Bytes.{padded, low_first}
use Rattle.lts.specs.Lists.{bind}
use Rattle.actl.specs.Actions.{Mask, Cond, silent, labels}
use Rattle.actl.specs.Formulas.{Formula, tru, not, or, ex, ax, eu, eu_then, size, nodes, class_of}

-- What a node's slot holds: its kind and two masks.
pub record Slot : Type 0 where
  pub kind : ℕ
  pub first : Mask
  pub second : Mask

abbrev pub slot : ℕ → Mask → Mask → Slot
slot kind first second = record { kind = kind; first = first; second = second }

abbrev pub next_slot : ℕ → Cond → Slot
next_slot kind silent = slot kind 0 0
next_slot kind (labels m) = slot (suc kind) m 0

abbrev pub slot_of : Formula → Slot
slot_of tru = slot 1 0 0
slot_of (not f) = slot 2 0 0
slot_of (or f g) = slot 3 0 0
slot_of (ex c f) = next_slot 4 c
slot_of (ax c f) = next_slot 6 c
slot_of (eu a f) = slot 8 a 0
slot_of (eu_then a b f) = slot 9 a b

abbrev pub slot_bytes : Slot → List ℕ
slot_bytes s = s.kind ∷ (low_first 8 s.first ++ low_first 8 s.second)

unfoldable pub formula_bytes : Formula → List ℕ
formula_bytes F = size F ∷ padded (most_nodes * node_slot_length) (bind (λ f. slot_bytes (slot_of f)) (nodes F))

-- A mask of labels 1 to n.
abbrev pub mask_within : ℕ → Mask → Bool
mask_within n m = eqb (m % 2) 0 && ltb m (2 ^ suc n)

abbrev pub slot_within : ℕ → Slot → Bool
slot_within n s = mask_within n s.first && mask_within n s.second

-- 01: "the one form, given in docs/, of 1 to 40 nodes in order, each with a class, sets within this table's labels"
pub record IsForm (n : ℕ) (b : List ℕ) (F : Formula) : Type 0 where
  pub form : take formula_length b ≡ formula_bytes F
  pub few : size F ≤ most_nodes
  pub classed : (f : Formula) → Memᴰ f (nodes F) → class_of f ≡ 0 → ⊥
  pub within : (f : Formula) → Memᴰ f (nodes F) → slot_within n (slot_of f) ≡ true

-- Over a table of n labels, the bytes are the form of some formula.
abbrev pub FormOfSome : ℕ → List ℕ → Type 0
FormOfSome n b = (F : Formula) × IsForm n b F
