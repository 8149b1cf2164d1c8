-- Lines written one behind the other: the bytes of one line, and one line more.
use mathlib.Core.Path.{◌≡◌, refl, sym, ap, ◌∙◌}
use mathlib.Core.List.{List, [], ◌∷◌, ◌++◌, append_assoc, append-nil}
use Prim.Native.Nat.{ℕ, zero, suc, ◌+◌, ◌≤◌, ◌<◌}
use native.Mathlib.Nat.{add-zero, add-suc, suc-add}
use native.Mathlib.Numerals.{add-one}
use native.Mathlib.Omega.{arith}
use lib.ListN.{length, get_or, take, set}
use lib.Seq.{take-suc}
use Rattle.columns.specs.Columns.{column}
use Rattle.columns.specs.inner.Write.{pasted}
use Rattle.columns.proofs.Laws.Columns.{column-length}
use Rattle.columns.proofs.Laws.Pasted.{set-pasted}
use Rattle.columns.proofs.Laws.Pasting.{Pasting, pasting_none, pasting_more, pasting_length}
use Rattle.lts.specs.Steps.{Step}
use Rattle.lts.specs.Text.{ended, header_line, label_line, transition_line}
use Rattle.lts.specs.TableText.{label_lines, transition_lines}
use Rattle.lts.proofs.Lists.{bind_append}
use Rattle.written_lines.specs.inner.Lines.{Stands}

-- A column and a byte more.
module _ {e : List ℕ} {at : ℕ} {l x : List ℕ} {end : ℕ} (p : Pasting e at l x end) where
  column-more : (n : ℕ) → n < 1000000 → (y : List ℕ) → y ≡ pasted x end (column n) → end + 6 ≤ length e → Pasting e at (l ++ column n) y (end + 6)
  column-more n h y q room = pasting_more p (column n) y (end + 6) q (omega (arith, column-length n h)) room

  byte_more : (b : ℕ) → end < length e → Pasting e at (l ++ (b ∷ [])) (set x end b) (end + 1)
  byte_more b room = pasting_more p (b ∷ []) (set x end b) (end + 1) (set-pasted x end b (omega (arith, pasting_length p))) refl (omega arith)

-- Line 1 at the start of a buffer.
module _ (e : List ℕ) (room : 25 ≤ length e) (s l t i : ℕ) (hs : s < 1000000) (hl : l < 1000000) (ht : t < 1000000) (hi : i < 1000000) where
  pub header-stands : (x y z u : List ℕ) → x ≡ pasted e 0 (column s) → y ≡ pasted x 6 (column l) → z ≡ pasted y 12 (column t) → u ≡ pasted z 18 (column i)
      → set u 24 10 ≡ pasted e 0 (ended (header_line s l t i))
  header-stands x y z u px py pz pu =
      let first = column-more (pasting_none e 0 (omega arith)) s hs x px (omega arith) in
      let second = column-more first l hl y py (omega arith) in
      let third = column-more second t ht z pz (omega arith) in
      let fourth = column-more third i hi u pu (omega arith) in
      let all = append_assoc (column s ++ column l) (column t) (column i) ∙ append_assoc (column s) (column l) (column t ++ column i) in
      (byte_more fourth 10 (omega arith)).is ∙ ap (λ m. pasted e 0 (m ++ (10 ∷ []))) all

-- A transition's line.
module _ (e : List ℕ) (at : ℕ) (room : at + 19 ≤ length e) (st : Step) (hf : st.from < 1000000) (hl : st.label < 1000000) (ht : st.to < 1000000) where
  pub step-stands : (x y z : List ℕ) → x ≡ pasted e at (column st.from) → y ≡ pasted x (at + 6) (column st.label) → z ≡ pasted y (at + 12) (column st.to)
      → set z (at + 18) 10 ≡ pasted e at (ended (transition_line st))
  step-stands x y z px py pz =
      let second_at : at + 12 ≡ at + 6 + 6 = omega arith in
      let last-at : at + 18 ≡ at + 6 + 6 + 6 = omega arith in
      let first = column-more (pasting_none e at (omega arith)) st.from hf x px (omega arith) in
      let second = column-more first st.label hl y py (omega arith) in
      let third = column-more second st.to ht z (pz ∙ ap (λ k. pasted y k (column st.to)) second_at) (omega arith) in
      ap (λ k. set z k 10) last-at ∙ (byte_more third 10 (omega arith)).is
      ∙ ap (λ m. pasted e at (m ++ (10 ∷ []))) (append_assoc (column st.from) (column st.label) (column st.to))

-- A label's line.
module _ (e : List ℕ) (at k : ℕ) (few : suc k < 1000000) (name : List ℕ) (room : at + (8 + length name) ≤ length e) where
  pub label-stands : (x y : List ℕ) (end : ℕ) → x ≡ pasted e at (column (k + 1)) → Stands name (at + 7) (set x (at + 6) 32) y end
      → Stands (ended (label_line (suc k) name)) at e (set y end 10) (end + 1)
  label-stands x y end px s =
      let next : at + 7 ≡ at + 6 + 1 = omega arith in
      let first = column-more (pasting_none e at (omega arith)) (suc k) few x (px ∙ ap (λ j. pasted e at (column j)) (add-one k)) (omega arith) in
      let blank = byte_more first 32 (omega arith) in
      let named = pasting_more blank name y end (s.is ∙ ap (λ j. pasted (set x (at + 6) 32) j name) next) (omega (arith, s.ends)) (omega (arith, s.ends)) in
      let whole = byte_more named 10 (omega (arith, s.ends)) in
      let line : ((column (suc k) ++ (32 ∷ [])) ++ name) ++ (10 ∷ []) ≡ ended (label_line (suc k) name) =
      ap (λ m. m ++ (10 ∷ [])) (append_assoc (column (suc k)) (32 ∷ []) name) in
      record { is = whole.is ∙ ap (pasted e at) line; ends = whole.ends ∙ ap (λ m. at + length m) line }

-- One line more.
pub labels-more : (j : ℕ) (names : List (List ℕ)) (k : ℕ) (name : List ℕ) → k < length names → get_or names k [] ≡ name
    → label_lines j (take k names) ++ ended (label_line (j + k) name) ≡ label_lines j (take (suc k) names)
labels-more j [] k name h d = absurd (omega arith)
labels-more j (n ∷ names) zero name h d = (λ i. ended (label_line (add-zero j i) (sym d i))) ∙ sym (append-nil (ended (label_line j n)))
labels-more j (n ∷ names) (suc k) name h d =
    append_assoc (ended (label_line j n)) (label_lines (suc j) (take k names)) (ended (label_line (j + suc k) name))
    ∙ ap (λ l. ended (label_line j n) ++ l)
    (ap (λ m. label_lines (suc j) (take k names) ++ ended (label_line m name)) (add-suc j k ∙ sym (suc-add j k)) ∙ labels-more (suc j) names k name (omega arith) d)

pub steps-more : (l : List Step) (k : ℕ) (d st : Step) → k < length l → get_or l k d ≡ st
    → transition_lines (take k l) ++ ended (transition_line st) ≡ transition_lines (take (suc k) l)
steps-more l k d st h e =
    let line : ended (transition_line st) ≡ transition_lines (get_or l k d ∷ []) = ap (λ s. ended (transition_line s)) (sym e) ∙ sym (append-nil (ended (transition_line (get_or l k d)))) in
    ap (λ m. transition_lines (take k l) ++ m) line
    ∙ sym (bind_append (λ s. ended (transition_line s)) (take k l) (get_or l k d ∷ []))
    ∙ ap transition_lines (sym (take-suc l k d h))
