-- The one form of a formula: its length, its bytes, and the slots in it.
use mathlib.Core.Path.{◌≡◌, refl, sym, ap, ◌∙◌, subst}
use mathlib.Core.List.{List, [], ◌∷◌, ◌++◌}
use Prim.Native.Nat.{ℕ, zero, suc, ◌+◌, ◌*◌, ◌-◌, ◌^◌, ◌≤◌, ◌<◌}
use native.Mathlib.Omega.{arith}
use lib.ListN.{length, get_or, take, drop, replicate, length-append}
use lib.Seq.{drop-drop, get_or-drop, get_or-take, get_or-append-add}
use Rattle.actl.specs.Sizes.{most_nodes, node_slot_length, formula_length}
use Rattle.columns.specs.Bytes.{padded, low_first}
use Rattle.lts.specs.Lists.{bind}
use Rattle.actl.specs.Formulas.{Formula, tru, size, nodes}
use Rattle.actl.specs.Prepared.{Slot, slot, slot_of, slot_bytes, formula_bytes}
use Rattle.byte_words.specs.inner.Words.{number}
use Rattle.actl.specs.inner.Prepared.{slot_at}
use Rattle.actl.proofs.Nodes.{length-nodes}
use Rattle.actl.proofs.Laws.Numbers.{number-low-first, number-take}
use Rattle.actl.proofs.Laws.Slots.{shape_of, node-shaped}
use Rattle.actl.proofs.Laws.Widths.{length_parts, drop_parts}
use Rattle.columns.proofs.Laws.Bytes.{Bytes, bytes-none, bytes-cons, bytes_append, bytes-at, padded-bytes, low_first-bytes, padded-length, low_first-length}

abbrev node_bytes : Formula → List ℕ
node_bytes f = slot_bytes (slot_of f)

length-slot : (s : Slot) → length (slot_bytes s) ≡ 17
length-slot s =
    let e = length-append (low_first 8 s.first) (low_first 8 s.second) in
    let a = low_first-length 8 s.first in
    let b = low_first-length 8 s.second in
    omega arith

pub length-form : (F : Formula) → size F ≤ most_nodes → length (formula_bytes F) ≡ formula_length
unfolding formula_bytes
length-form F h =
    let e = length_parts node_bytes 17 (λ f. length-slot (slot_of f)) (nodes F) in
    let d = padded-length (most_nodes * node_slot_length) (bind node_bytes (nodes F)) (omega (arith, length-nodes F)) in
    ap suc d

-- The slot at the front of a list.
abbrev pub slot_from : List ℕ → Slot
slot_from b = slot (get_or b 0 0) (number 8 (drop 1 b)) (number 8 (drop 9 b))

pub slot-from : (b : List ℕ) (k : ℕ) → slot_at b k ≡ slot_from (drop (1 + k * node_slot_length) b)
slot-from b k =
    let a : 1 + k * node_slot_length + 0 ≡ 1 + k * node_slot_length = omega arith in
    let c : 1 + k * node_slot_length + 1 ≡ 2 + k * node_slot_length = omega arith in
    let d : 1 + k * node_slot_length + 9 ≡ 10 + k * node_slot_length = omega arith in
    let e : get_or (drop (1 + k * node_slot_length) b) 0 0 ≡ get_or b (1 + k * node_slot_length) 0 = rw (get_or-drop, a) in
    let f : drop 1 (drop (1 + k * node_slot_length) b) ≡ drop (2 + k * node_slot_length) b = rw (drop-drop, c) in
    let g : drop 9 (drop (1 + k * node_slot_length) b) ≡ drop (10 + k * node_slot_length) b = rw (drop-drop, d) in
    λ i. slot (sym e i) (number 8 (sym f i)) (number 8 (sym g i))

-- What stands for s: the same kind, and the same masks where eight bytes carry them.
pub record StandsFor (s found : Slot) : Type 0 where
  pub same_kind : found.kind ≡ s.kind
  pub same_first : s.first < 256 ^ 8 → found.first ≡ s.first
  pub same_second : s.second < 256 ^ 8 → found.second ≡ s.second

pub slot-front : (s : Slot) (more : List ℕ) → StandsFor s (slot_from (slot_bytes s ++ more))
slot-front s more = record {
  same_kind = refl;
  same_first = λ h. number-low-first 8 s.first more h;
  same_second = λ h. number-low-first 8 s.second more h;
}

pub slot-of-form : (F : Formula) (k : ℕ) → k < size F → StandsFor (slot_of (get_or (nodes F) k tru)) (slot_at (formula_bytes F) k)
unfolding formula_bytes
slot-of-form F k h =
    let f = get_or (nodes F) k tru in
    let all = bind node_bytes (nodes F) in
    let (more, e) = drop_parts node_bytes 17 (λ g. length-slot (slot_of g)) tru (nodes F) k (replicate ((most_nodes * node_slot_length) - length all) 0) (omega (arith, length-nodes F)) in
    let q : 1 + k * node_slot_length ≡ suc (k * node_slot_length) = omega arith in
    let d : drop (1 + k * node_slot_length) (formula_bytes F) ≡ node_bytes f ++ more = ap (λ i. drop i (formula_bytes F)) q ∙ e in
    subst (StandsFor (slot_of f)) (sym (slot-from (formula_bytes F) k ∙ ap slot_from d)) (slot-front (slot_of f) more)

-- Only the first bytes count.
pub slot-of-front : (b : List ℕ) (k : ℕ) → k < most_nodes → slot_at (take formula_length b) k ≡ slot_at b k
slot-of-front b k h =
    let e = get_or-take formula_length b (1 + k * node_slot_length) 0 (omega arith) in
    let f = number-take 8 (2 + k * node_slot_length) formula_length b (omega arith) in
    let g = number-take 8 (10 + k * node_slot_length) formula_length b (omega arith) in
    λ i. slot (e i) (f i) (g i)

-- Every one of the form's numbers is a byte.
bytes-node : (f : Formula) → Bytes (node_bytes f)
bytes-node f =
    let h = (shape_of (slot_of f) (node-shaped f)).high in
    bytes-cons (omega arith) (bytes_append (low_first 8 (slot_of f).first) (low_first-bytes 8 (slot_of f).first) (low_first-bytes 8 (slot_of f).second))

bytes-nodes : (l : List Formula) → Bytes (bind node_bytes l)
bytes-nodes [] = bytes-none
bytes-nodes (f ∷ l) = bytes_append (node_bytes f) (bytes-node f) (bytes-nodes l)

pub form-bytes : (F : Formula) → size F ≤ most_nodes → (i : ℕ) → get_or (formula_bytes F) i 0 < 256
unfolding formula_bytes
form-bytes F h = bytes-at (formula_bytes F) (bytes-cons (omega arith) (padded-bytes (most_nodes * node_slot_length) (bind node_bytes (nodes F)) (bytes-nodes (nodes F))))

-- Zeros past the last slot.
zero-at : (m i : ℕ) → get_or {A = ℕ} (replicate m 0) i 0 ≡ 0
zero-at zero i = refl
zero-at (suc m) zero = refl
zero-at (suc m) (suc i) = zero-at m i

pub form-zeros : (F : Formula) (i : ℕ) → 1 + size F * node_slot_length ≤ i → get_or (formula_bytes F) i 0 ≡ 0
unfolding formula_bytes
form-zeros F zero h = absurd (omega arith)
form-zeros F (suc i) h =
    let all = bind node_bytes (nodes F) in
    let e : length all ≡ size F * node_slot_length = length_parts node_bytes 17 (λ f. length-slot (slot_of f)) (nodes F) ∙ ap (λ n. n * node_slot_length) (length-nodes F) in
    let d : i ≡ length all + (i - length all) = omega arith in
    ap (λ j. get_or (padded (most_nodes * node_slot_length) all) j 0) d
    ∙ (get_or-append-add all (replicate ((most_nodes * node_slot_length) - length all) 0) (i - length all) 0 ∙ zero-at ((most_nodes * node_slot_length) - length all) (i - length all))
