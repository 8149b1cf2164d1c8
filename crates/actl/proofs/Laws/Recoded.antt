-- Bytes whose slots are those of a formula's nodes, with zeros behind them, are the formula's one form.
use mathlib.Core.Path.{◌≡◌, refl, sym, ap, ◌∙◌}
use mathlib.Core.Bool.{true}
use mathlib.Core.List.{List, [], ◌∷◌, ◌++◌, map, append-nil}
use Prim.Native.Nat.{ℕ, zero, suc, ◌+◌, ◌*◌, ◌-◌, ◌/◌, ◌%◌, ◌≤◌, ◌<◌}
use native.Mathlib.Nat.{suc-mul, zero-mul}
use native.Mathlib.Omega.{arith}
use lib.Dec.{eqb}
use lib.ListN.{length, get_or, take, drop, replicate, length-drop, length-replicate, get_or-replicate}
use lib.Seq.{drop-cons, drop-drop, take-add, length-take-le, get_or-take, get_or-drop, ext_get_or}
use borrow.Author.Tests.{eqb-true}
use Rattle.actl.specs.Sizes.{most_nodes, node_slot_length, formula_length}
use Rattle.columns.specs.Bytes.{padded, low_first}
use Rattle.lts.specs.inner.Lists.{up_from}
use Rattle.lts.specs.Lists.{bind}
use Rattle.lts.proofs.Lists.{up_from-to, up_from_snoc, every_of, bind_append}
use Rattle.actl.specs.Formulas.{Formula, size, nodes}
use Rattle.actl.specs.Prepared.{Slot, slot_of, slot_bytes, formula_bytes}
use Rattle.byte_words.specs.inner.Words.{number}
use Rattle.actl.specs.inner.Prepared.{slot_at}
use Rattle.actl.specs.inner.Check.{zeros_from}

abbrev pub BytesAt : List ℕ → Type 0
BytesAt l = (i : ℕ) → get_or l i 0 < 256

bytes_drop : (n : ℕ) (l : List ℕ) → BytesAt l → BytesAt (drop n l)
bytes_drop n l h i = rw get_or-drop (h (n + i))

-- n bytes are those of the number in them.
low-first-number : (n : ℕ) (l : List ℕ) → n ≤ length l → BytesAt l → low_first n (number n l) ≡ take n l
low-first-number zero [] h b = refl
low-first-number zero (x ∷ l) h b = refl
low-first-number (suc n) [] h b = absurd (omega arith)
low-first-number (suc n) (x ∷ l) h b =
    let m = number n l in
    let small = b 0 in
    let r : (x + m * 256) % 256 ≡ x = omega arith in
    let q : (x + m * 256) / 256 ≡ m = omega arith in
    (λ i. r i ∷ low_first n (q i)) ∙ ap (λ z. x ∷ z) (low-first-number n l (omega arith) (λ i. b (suc i)))

bind-map : {A : Type 0} (g : Slot → List ℕ) (h : A → Slot) (l : List A) → bind g (map h l) ≡ bind (λ x. g (h x)) l
bind-map g h [] = refl
bind-map g h (x ∷ l) = ap (λ z. g (h x) ++ z) (bind-map g h l)

module _ (b : List ℕ) (long : formula_length ≤ length b) (bytes : BytesAt b) where
  slot-bytes : (k : ℕ) → k < most_nodes → slot_bytes (slot_at b k) ≡ take 17 (drop (1 + k * node_slot_length) b)
  slot-bytes k h =
      let Z = drop (2 + k * node_slot_length) b in
      let up : suc (1 + k * node_slot_length) ≡ 2 + k * node_slot_length = omega arith in
      let ten : 2 + k * node_slot_length + 8 ≡ 10 + k * node_slot_length = omega arith in
      let here : drop (1 + k * node_slot_length) b ≡ get_or b (1 + k * node_slot_length) 0 ∷ Z =
      drop-cons b (1 + k * node_slot_length) 0 (omega arith) ∙ ap (λ i. get_or b (1 + k * node_slot_length) 0 ∷ drop i b) up in
      let one = low-first-number 8 Z (omega (arith, length-drop (2 + k * node_slot_length) b)) (bytes_drop (2 + k * node_slot_length) b bytes) in
      let two = low-first-number 8 (drop (10 + k * node_slot_length) b) (omega (arith, length-drop (10 + k * node_slot_length) b)) (bytes_drop (10 + k * node_slot_length) b bytes) in
      let rest : drop (10 + k * node_slot_length) b ≡ drop 8 Z = sym (drop-drop 8 (2 + k * node_slot_length) b ∙ ap (λ i. drop i b) ten) in
      (λ i. get_or b (1 + k * node_slot_length) 0 ∷ (one i ++ two i))
      ∙ (ap (λ l. get_or b (1 + k * node_slot_length) 0 ∷ (take 8 Z ++ take 8 l)) rest ∙ (ap (λ l. get_or b (1 + k * node_slot_length) 0 ∷ l) (sym (take-add 8 8 Z)) ∙ ap (take 17) (sym here)))

  all_slots : (c : ℕ) → c ≤ 40 → bind (λ k. slot_bytes (slot_at b k)) (up_from 0 c) ≡ take (c * node_slot_length) (drop 1 b)
  all_slots zero h = ap (λ n. take n (drop 1 b)) (sym (zero-mul 17))
  all_slots (suc c) h =
      let g : ℕ → List ℕ = λ k. slot_bytes (slot_at b k) in
      let snoc : bind g (up_from 0 (suc c)) ≡ bind g (up_from 0 c) ++ g c =
      ap (bind g) (up_from_snoc c) ∙ (bind_append g (up_from 0 c) (c ∷ []) ∙ ap (λ l. bind g (up_from 0 c) ++ l) (append-nil (g c))) in
      let there : take 17 (drop (1 + c * node_slot_length) b) ≡ take 17 (drop (c * node_slot_length) (drop 1 b)) = ap (take 17) (sym (drop-drop (c * node_slot_length) 1 b)) in
      snoc ∙ ((λ i. all_slots c (omega arith) i ++ (slot-bytes c (omega arith) ∙ there) i) ∙ (sym (take-add (c * node_slot_length) 17 (drop 1 b)) ∙ ap (λ n. take n (drop 1 b)) (sym (suc-mul c 17))))

  zeros-behind : (c : ℕ) → c ≤ 40 → zeros_from b (1 + c * node_slot_length) ≡ true
      → take ((most_nodes * node_slot_length) - c * node_slot_length) (drop (c * node_slot_length) (drop 1 b)) ≡ replicate ((most_nodes * node_slot_length) - c * node_slot_length) 0
  zeros-behind c h e =
      let n = (most_nodes * node_slot_length) - c * node_slot_length in
      let l = drop (c * node_slot_length) (drop 1 b) in
      let size : length l ≡ length b - (1 + c * node_slot_length) = ap length (drop-drop (c * node_slot_length) 1 b) ∙ length-drop (1 + c * node_slot_length) b in
      let front : length (take n l) ≡ n = length-take-le n l (omega arith) in
      ext_get_or 0 (take n l) (replicate n 0) (front ∙ sym (length-replicate {A = ℕ} n 0)) (λ i s.
      let near : i < n = omega arith in
      let place : 1 + (c * node_slot_length + i) ≡ 1 + c * node_slot_length + i = omega arith in
      let zero-there : get_or b (1 + c * node_slot_length + i) 0 ≡ 0 =
      eqb-true (get_or b (1 + c * node_slot_length + i) 0) 0 (every_of (λ j. eqb (get_or b j 0) 0) (up_from (1 + c * node_slot_length) (formula_length - (1 + c * node_slot_length)))
      e (1 + c * node_slot_length + i) (up_from-to (1 + c * node_slot_length) (formula_length - (1 + c * node_slot_length)) (1 + c * node_slot_length + i) (omega arith) (omega arith))) in
      get_or-take n l i 0 near ∙ (get_or-drop (c * node_slot_length) (drop 1 b) i 0
      ∙ (get_or-drop 1 b (c * node_slot_length + i) 0 ∙ (ap (λ j. get_or b j 0) place ∙ (zero-there ∙ sym (get_or-replicate n i 0 0 near))))))

  pub form-of-bytes : (F : Formula) → get_or b 0 0 ≡ size F → size F ≤ most_nodes → zeros_from b (1 + get_or b 0 0 * node_slot_length) ≡ true
      → map (slot_at b) (up_from 0 (get_or b 0 0)) ≡ map slot_of (nodes F) → take formula_length b ≡ formula_bytes F
  unfolding formula_bytes
  form-of-bytes F count few zeros same =
      let c = get_or b 0 0 in
      let X = bind (λ k. slot_bytes (slot_at b k)) (up_from 0 c) in
      let all = all_slots c (omega arith) in
      let parts : X ≡ bind (λ f. slot_bytes (slot_of f)) (nodes F) = sym (bind-map slot_bytes (slot_at b) (up_from 0 c)) ∙ (ap (bind slot_bytes) same ∙ bind-map slot_bytes slot_of (nodes F)) in
      let wide : length X ≡ c * node_slot_length = ap length all ∙ length-take-le (c * node_slot_length) (drop 1 b) (omega (arith, length-drop 1 b)) in
      let sum : (most_nodes * node_slot_length) ≡ c * node_slot_length + ((most_nodes * node_slot_length) - c * node_slot_length) = omega arith in
      let body : take (most_nodes * node_slot_length) (drop 1 b) ≡ padded (most_nodes * node_slot_length) X =
      ap (λ n. take n (drop 1 b)) sum
      ∙ (take-add (c * node_slot_length) ((most_nodes * node_slot_length) - c * node_slot_length) (drop 1 b)
      ∙ ((λ i. sym all i ++ zeros-behind c (omega arith) zeros i) ∙ ap (λ n. X ++ replicate ((most_nodes * node_slot_length) - n) 0) (sym wide))) in
      let front : take formula_length b ≡ c ∷ take (most_nodes * node_slot_length) (drop 1 b) = ap (take formula_length) (drop-cons b 0 0 (omega arith)) in
      front ∙ (λ i. count i ∷ (body ∙ ap (padded (most_nodes * node_slot_length)) parts) i)
