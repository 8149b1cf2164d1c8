-- Nodes written one after the other into the bytes that reading keeps, and moved up by one.
use mathlib.Core.Path.{◌≡◌, refl, sym, ap, ◌∙◌}
use mathlib.Core.List.{List, [], ◌∷◌, ◌++◌, append_assoc}
use Prim.Native.Nat.{ℕ, suc, ◌+◌, ◌*◌, ◌-◌, ◌≤◌, ◌<◌}
use native.Mathlib.Numerals.{add-one}
use native.Mathlib.Omega.{arith}
use lib.ListN.{length, get_or, take, drop, set, length-append, length-take, length-drop, take-append-drop, drop_of_length-le, get_or-append}
use lib.Seq.{length-take-le, take-suc, drop-cons, take-append-le, take_at, drop_at, set_at, get_or-take, take-take}
use Rattle.columns.specs.inner.Write.{pasted}
use Rattle.columns.proofs.Laws.Pasted.{pasted_length, pasted-none, pasted-then, pasted_over}
use Rattle.actl.specs.Sizes.{most_nodes, node_slot_length, formula_length}
use Rattle.lts.proofs.Lists.{bind_append}
use Rattle.actl.specs.Formulas.{Formula, size, nodes}
use Rattle.actl.specs.Prepared.{slot, slot_of, slot_bytes}
use Rattle.actl.specs.inner.NodeBytes.{bytes_of_nodes, NodesWritten, NodesEnclosed, not_bytes, and_bytes}
use Rattle.actl.proofs.Nodes.{length-nodes}
use Rattle.actl.proofs.Laws.Widths.{length_parts}

-- Bytes while those below `top` move up by w: the ones from i on have moved.
abbrev pub moved : ℕ → ℕ → ℕ → List ℕ → List ℕ
moved w top i e = take (i + w) e ++ (drop i (take top e) ++ drop (top + w) e)

pub moved_none : (w top : ℕ) (e : List ℕ) → e ≡ moved w top top e
moved_none w top e = sym (take-append-drop (top + w) e) ∙ ap (λ l. take (top + w) e ++ (l ++ drop (top + w) e))
    (sym (drop_of_length-le (take top e) (let z : length (take top e) ≤ top = rw length-take (omega arith) in z)))

module _ (w top k : ℕ) (e : List ℕ) (room : top + w ≤ length e) (h : k < top) where
  moved_read : get_or (moved w top (k + 1) e) k 0 ≡ get_or e k 0
  moved_read = get_or-append (take (k + 1 + w) e) _ 0 k (let z : k < length (take (k + 1 + w) e) = rw length-take (omega arith) in z) ∙ get_or-take (k + 1 + w) e k 0 (omega arith)

  moved_more : set (moved w top (k + 1) e) (k + w) (get_or (moved w top (k + 1) e) k 0) ≡ moved w top k e
  moved_more =
      let r = drop (top + w) e in
      let q = drop (k + 1) (take top e) in
      let a : k + 1 + w ≡ suc (k + w) = omega arith in
      let z : k < length (take top e) = rw length-take (omega arith) in
      let b : take (k + 1 + w) e ≡ take (k + w) e ++ (get_or e (k + w) 0 ∷ []) = ap (λ i. take i e) a ∙ take-suc e (k + w) 0 (omega arith) in
      let c : drop k (take top e) ≡ get_or e k 0 ∷ q = drop-cons (take top e) k 0 z ∙ (λ i. get_or-take top e k 0 h i ∷ drop (sym (add-one k) i) (take top e)) in
      ap (set (moved w top (k + 1) e) (k + w)) moved_read
      ∙ (ap (λ l. set (l ++ (q ++ r)) (k + w) (get_or e k 0)) b
      ∙ (ap (λ l. set l (k + w) (get_or e k 0)) (append_assoc (take (k + w) e) (get_or e (k + w) 0 ∷ []) (q ++ r))
      ∙ (set_at (take (k + w) e) (get_or e (k + w) 0) (q ++ r) (get_or e k 0) (k + w) (length-take-le (k + w) e (omega arith))
      ∙ ap (λ l. take (k + w) e ++ (l ++ r)) (sym c))))

module _ (w top i : ℕ) (e : List ℕ) (room : top + w ≤ length e) (h : i ≤ top) where
  pub moved_step : (x : List ℕ) → 0 < i → x ≡ moved w top i e → set x (i - 1 + w) (get_or x (i - 1) 0) ≡ moved w top (i - 1) e
  moved_step x z p =
      let a : i ≡ i - 1 + 1 = omega arith in
      ap (λ y. set y (i - 1 + w) (get_or y (i - 1) 0)) (p ∙ ap (λ j. moved w top j e) a) ∙ moved_more w top (i - 1) e room (omega arith)

  pub length_moved : length (moved w top i e) ≡ length e
  length_moved =
      let a = length-take-le (i + w) e (omega arith) in
      let b = length-take-le top e (omega arith) in
      length-append (take (i + w) e) (drop i (take top e) ++ drop (top + w) e)
      ∙ omega (arith, length-append (drop i (take top e)) (drop (top + w) e), length-drop i (take top e), length-drop (top + w) e)

  -- All have moved, and w bytes are put before them.
  pub moved_all : (l : List ℕ) → length l ≡ w → pasted (moved w top i e) i l ≡ pasted e i (l ++ drop i (take top e))
  moved_all l z =
      let q = drop i (take top e) in
      let r = drop (top + w) e in
      let a = length-take-le (i + w) e (omega arith) in
      let b : take i (moved w top i e) ≡ take i e = take-append-le i (take (i + w) e) (q ++ r) (omega arith) ∙ take-take i (i + w) e (omega arith) in
      let c : drop (i + length l) (moved w top i e) ≡ q ++ r = drop_at (take (i + w) e) (q ++ r) (i + length l) (omega arith) in
      let d : top + w ≡ i + length (l ++ q) = omega (arith, length-append l q, length-drop i (take top e), length-take-le top e (omega arith)) in
      (λ j. b j ++ (l ++ c j)) ∙ (ap (λ m. take i e ++ m) (sym (append_assoc l q r)) ∙ ap (λ m. take i e ++ ((l ++ q) ++ drop m e)) d)

-- Nodes written so far.
module _ {e : List ℕ} (long : length e ≡ formula_length) where
  pub written_none : (n : ℕ) → NodesWritten n n e e []
  written_none n = record { ends = omega arith; long = refl; made = λ h. pasted-none (1 + n * node_slot_length) e }

  pub written-more : {n m k : ℕ} {x y l j : List ℕ} → NodesWritten n m e x l → NodesWritten m k x y j → NodesWritten n k e y (l ++ j)
  written-more {n} {m} {x} {y} {l} {j} p q = record {
    ends = omega (arith, p.ends, q.ends, length-append l j);
    long = q.long ∙ p.long;
    made = λ h.
        let w : m ≤ most_nodes = omega (arith, q.ends) in
        pasted-then (1 + n * node_slot_length) (1 + m * node_slot_length) l j e x y (p.made w) p.ends (omega (arith, p.ends)) (q.made h);
  }

  -- More nodes before and behind those from `start` on.
  pub written_around : (n start m w : ℕ) (x y a l before behind : List ℕ) → NodesWritten n m e x (a ++ l) → 1 + start * node_slot_length ≡ 1 + n * node_slot_length + length a
      → length before + length behind ≡ w * node_slot_length → NodesEnclosed start m w before behind x y → NodesWritten n (m + w) e y (a ++ (before ++ (l ++ behind)))
  written_around n start m w x y a l before behind p z v q =
      let i = 1 + start * node_slot_length in
      let o = 1 + n * node_slot_length in
      let top = 1 + m * node_slot_length in
      let c = before ++ (l ++ behind) in
      let f = pasted e o a in
      let al = length-append a l in
      let ac = length-append a c in
      let bc = length-append before (l ++ behind) in
      let cc = length-append l behind in
      record {
        ends = omega (arith, p.ends);
        long = q.long ∙ p.long;
        made = λ h.
            let lf = pasted_length e o a (omega (arith, p.ends)) in
            let r : x ≡ pasted f i l = p.made (omega arith) ∙ sym (pasted-then o i a l e f (pasted f i l) refl z (omega (arith, p.ends)) refl) in
            let u = length-take-le i f (omega (arith, p.ends)) in
            let t : length (take i f ++ l) ≡ top = length-append (take i f) l ∙ omega (arith, p.ends) in
            let d : drop i (take top x) ≡ l = ap (drop i) (ap (take top) (r ∙ sym (append_assoc (take i f) l (drop (i + length l) f)))
            ∙ take_at (take i f ++ l) (drop (i + length l) f) top t) ∙ drop_at (take i f) l i u in
            q.made h
            ∙ (ap (λ k. pasted x i (before ++ (k ++ behind))) d
            ∙ (pasted_over i l c f x r (omega arith) (omega (arith, p.ends))
            ∙ pasted-then o i a c e f (pasted f i c) refl z (omega (arith, p.ends)) refl));
      }

pub bytes-length : (f : Formula) → length (bytes_of_nodes f) ≡ size f * node_slot_length
bytes-length f = length_parts (λ g. slot_bytes (slot_of g)) node_slot_length (λ g. refl) (nodes f) ∙ ap (λ k. k * node_slot_length) (length-nodes f)

pub bytes-or : (f g : Formula) → bytes_of_nodes (Formula.or f g) ≡ (slot_bytes (slot 3 0 0) ++ bytes_of_nodes f) ++ bytes_of_nodes g
bytes-or f g = ap (λ l. slot_bytes (slot 3 0 0) ++ l) (bind_append (λ f. slot_bytes (slot_of f)) (nodes f) (nodes g)) ∙ sym
    (append_assoc (slot_bytes (slot 3 0 0)) (bytes_of_nodes f) (bytes_of_nodes g))

-- ~(~f | ~g): the nodes of f stand between `~|~` and `~`.
pub bytes-and : (f g : Formula) → bytes_of_nodes (Formula.not (Formula.or (Formula.not f) (Formula.not g))) ≡ (and_bytes ++ (bytes_of_nodes f ++ not_bytes)) ++ bytes_of_nodes g
bytes-and f g = ap (λ l. and_bytes ++ l) (bind_append (λ h. slot_bytes (slot_of h)) (nodes f) (nodes (Formula.not g)) ∙ sym (append_assoc (bytes_of_nodes f) not_bytes (bytes_of_nodes g)))
