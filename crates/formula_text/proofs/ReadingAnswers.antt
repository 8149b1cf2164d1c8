-- The answer behind the grammar: the bytes that reading leaves are a formula's prepared bytes, and its refusals come in their order.
use mathlib.Core.Path.{◌≡◌, refl, sym, ap, ◌∙◌}
use mathlib.Core.Bool.{false}
use mathlib.Core.List.{List, [], ◌∷◌, ◌++◌, map}
use mathlib.Core.Option.{Option, none, some}
use Prim.Native.Nat.{ℕ, suc, ◌+◌, ◌*◌, ◌-◌, ◌≤◌, ◌<◌}
use native.Mathlib.Nat.{add-zero, zero-add}
use native.Mathlib.Omega.{arith}
use borrow.Author.Tests.{le-leb, lt-leb}
use lib.Dec.{leb}
use lib.ListN.{length, get_or, take, drop, set, replicate, length-drop, length-replicate, get_or-replicate}
use lib.Seq.{get_or-take, get_or-drop, length-take-le, take_all, drop-cons, take-append-add, ext_get_or}
use Rattle.actl.specs.Sizes.{most_nodes, node_slot_length, formula_length}
use Rattle.columns.specs.inner.Write.{pasted}
use Rattle.lts.specs.inner.Lists.{up_from}
use Rattle.lts.specs.Reply.{accepted, refusal, unless, left_in, answers}
use Rattle.actl.specs.Formulas.{Formula, tru, size, nodes, highest_without_class}
use Rattle.actl.specs.Prepared.{formula_bytes}
use Rattle.actl.specs.Reading.{unless_found, with_classes}
use Rattle.actl.specs.inner.NodeBytes.{bytes_of_nodes}
use Rattle.actl.specs.inner.Walk.{kind_of, kinds_of, kinds_in}
use Rattle.actl.specs.inner.Writing.{prepared_bytes, NodesHeld}
use Rattle.formula_text.specs.inner.FormulaAnswers.{FormulaAnswered}
use Rattle.formula_text.specs.declared.FormulaRefusal.TheVariants.{NameUnknown, TooManyNodes, NoClass}
use Rattle.std.proofs.Common.{Ok, Err}
use Rattle.actl.proofs.Nodes.{length-nodes}
use Rattle.actl.proofs.ReadingNodes.{bytes-length}
use Rattle.actl.proofs.Laws.Forms.{slot-of-form}

-- A function of the numbers from j on is one of a list's members.
map-numbered : {A : Type 0} (d : A) (g : ℕ → ℕ) (h : A → ℕ) (l : List A) (j : ℕ)
    → ((i : ℕ) → i < length l → g (j + i) ≡ h (get_or l i d)) → map g (up_from j (length l)) ≡ map h l
map-numbered d g h [] j e = refl
map-numbered d g h (x ∷ l) j e =
    let moved : (i : ℕ) → suc j + i ≡ j + suc i = λ i. omega arith in
    λ n. (ap g (sym (add-zero j)) ∙ e 0 (omega arith)) n ∷ map-numbered d g h l (suc j) (λ i w. ap g (moved i) ∙ e (suc i) (omega arith)) n

-- The first bytes of b are copied, and the count is put before them.
pub bytes_copied : (b e x : List ℕ) (n m : ℕ) → formula_length ≤ length b → formula_length ≤ length e → m ≡ formula_length
    → x ≡ take m (take formula_length b) ++ drop m e → set x 0 n ≡ pasted e 0 (prepared_bytes b n)
bytes_copied b e x n m h k z p =
    let f = take formula_length b in
    let l : length f ≡ formula_length = length-take-le formula_length b h in
    let g : f ≡ get_or f 0 0 ∷ drop 1 f = drop-cons f 0 0 (omega arith) in
    let w : formula_length ≡ 0 + length (prepared_bytes b n) = omega (arith, length-drop 1 f) in
    ap (λ y. set y 0 n) (p ∙ (ap (λ i. take i f ++ drop i e) z ∙ (λ i. (take_all formula_length f (omega arith) ∙ g) i ++ drop formula_length e)))
    ∙ ap (λ i. prepared_bytes b n ++ drop i e) w

zeros_part : (k j r : ℕ) → j + k ≤ r → take {A = ℕ} k (drop j (replicate r 0)) ≡ replicate k 0
zeros_part k j r h =
    let z : List ℕ = replicate r 0 in
    let l : length (drop j z) ≡ r - j = length-drop j z ∙ ap (λ n. n - j) (length-replicate {A = ℕ} r 0) in
    let long : length (take k (drop j z)) ≡ k = length-take-le k (drop j z) (omega arith) in
    ext_get_or 0 (take k (drop j z)) (replicate k 0) (long ∙ sym (length-replicate {A = ℕ} k 0)) (λ i w.
    let near : i < k = omega arith in
    get_or-take k (drop j z) i 0 near ∙ (get_or-drop j z i 0 ∙ (get_or-replicate r (j + i) 0 0 (omega arith) ∙ sym (get_or-replicate k i 0 0 near))))

module _ (b : List ℕ) (n : ℕ) (F : Formula)
    (count : n ≡ size F) (made : b ≡ pasted (replicate formula_length 0) 1 (bytes_of_nodes F)) (few : n ≤ most_nodes) where
  pub bytes-are : prepared_bytes b n ≡ formula_bytes F
  unfolding formula_bytes
  bytes-are =
      let B = bytes_of_nodes F in
      let Z : List ℕ = drop (1 + length B) (replicate formula_length 0) in
      let w = most_nodes * node_slot_length in
      let l = bytes-length F in
      let s : w ≡ length B + (w - length B) = omega arith in
      let zeros = zeros_part (w - length B) (1 + length B) formula_length (omega arith) in
      let t : take w (B ++ Z) ≡ B ++ replicate (w - length B) 0
      = ap (λ k. take k (B ++ Z)) s ∙ (take-append-add B Z (w - length B) ∙ ap (λ x. B ++ x) zeros) in
      ap (λ x. n ∷ drop 1 (take formula_length x)) made ∙ (λ i. count i ∷ t i)

  same_count : n ≡ length (nodes F)
  same_count = count ∙ sym (length-nodes F)

  kind-of : (k : ℕ) → k < n → get_or b (1 + k * node_slot_length) 0 ≡ kind_of (get_or (nodes F) k tru)
  kind-of k h =
      let i = k * node_slot_length in
      let q : 1 + i ≡ suc i = omega arith in
      sym (get_or-take formula_length b (1 + i) 0 (omega arith))
      ∙ (sym (get_or-drop 1 (take formula_length b) i 0)
      ∙ (sym (ap (λ j. get_or (prepared_bytes b n) j 0) q)
      ∙ (ap (λ l. get_or l (1 + i) 0) bytes-are ∙ (slot-of-form F k (omega (arith, count))).same_kind)))

  pub kinds_are : kinds_in b n ≡ kinds_of F
  kinds_are = ap (kinds_in b) same_count ∙ map-numbered tru (λ k. get_or b (1 + k * node_slot_length) 0) kind_of (nodes F) 0
      (λ i w. ap (λ j. get_or b (1 + j * node_slot_length) 0) (zero-add i) ∙ kind-of i (omega (arith, same_count)))

-- The order of the refusals.
module _ (b : List ℕ) (n lost : ℕ) (e : List ℕ) (F : Formula) where
  pub answer_unknown : (o : Option ℕ) → NodesHeld b n lost F o → (lost ≡ 0 → ⊥)
      → FormulaAnswered (unless_found o 7 (with_classes F)) e (Err (NameUnknown (lost - 1))) e
  answer_unknown none h z = absurd (z h.lacks)
  answer_unknown (some a) h z =
      let w : lost - 1 ≡ a = omega (arith, h.lacks) in
      record { replies = ap (refusal 7) w; leaves = refl }

  module _ (z : lost ≡ 0) where
    pub answer-many : (o : Option ℕ) → NodesHeld b n lost F o → 40 < n → FormulaAnswered (unless_found o 7 (with_classes F)) e (Err (TooManyNodes n)) e
    answer-many (some a) h w = absurd (omega (arith, h.lacks))
    answer-many none h w =
        let t : leb (size F) most_nodes ≡ false = lt-leb (size F) most_nodes (omega (arith, h.count)) in
        let q : with_classes F ≡ refusal 8 n
        = ap (λ v. unless v 8 (size F) (unless_found (highest_without_class F) 9 (accepted F))) t ∙ ap (refusal 8) (sym h.count) in
        record { replies = sym (ap (answers (λ F. tt)) q); leaves = sym (ap (λ a. left_in formula_bytes a e) q) }

    module _ (w : n ≤ most_nodes) (h : NodesHeld b n lost F none) where
      few : with_classes F ≡ unless_found (highest_without_class F) 9 (accepted F)
      few = ap (λ v. unless v 8 (size F) (unless_found (highest_without_class F) 9 (accepted F)))
          (le-leb (size F) most_nodes (omega (arith, h.count)))

      classless : (k : ℕ) → some k ≡ highest_without_class F → FormulaAnswered (with_classes F) e (Err (NoClass k)) e
      classless k q =
          let r : with_classes F ≡ refusal 9 k = few ∙ ap (λ o. unless_found o 9 (accepted F)) (sym q) in
          record { replies = sym (ap (answers (λ F. tt)) r); leaves = sym (ap (λ a. left_in formula_bytes a e) r) }

      classed : (x : List ℕ) → none ≡ highest_without_class F → x ≡ pasted e 0 (prepared_bytes b n) → FormulaAnswered (with_classes F) e (Ok tt) x
      classed x q p =
          let r : with_classes F ≡ accepted F = few ∙ ap (λ o. unless_found o 9 (accepted F)) (sym q) in
          let f = bytes-are b n F h.count (h.made w) w in
          record {
            replies = sym (ap (answers (λ F. tt)) r);
            leaves = p ∙ ((λ i. f i ++ drop (0 + length (f i)) e) ∙ (ap (λ k. formula_bytes F ++ drop k e) (zero-add (length (formula_bytes F)))
                ∙ sym (ap (λ a. left_in formula_bytes a e) r)));
          }

    pub answer_classless : (o : Option ℕ) → NodesHeld b n lost F o → n ≤ most_nodes
        → (k : ℕ) → some k ≡ highest_without_class F → FormulaAnswered (unless_found o 7 (with_classes F)) e (Err (NoClass k)) e
    answer_classless (some a) h w k q = absurd (omega (arith, h.lacks))
    answer_classless none h w k q = classless w h k q

    pub answer-accepted : (o : Option ℕ) → NodesHeld b n lost F o → n ≤ most_nodes → (x : List ℕ) → none ≡ highest_without_class F
        → x ≡ pasted e 0 (prepared_bytes b n) → FormulaAnswered (unless_found o 7 (with_classes F)) e (Ok tt) x
    answer-accepted (some a) h w x q p = absurd (omega (arith, h.lacks))
    answer-accepted none h w x q p = classed w h x q p
