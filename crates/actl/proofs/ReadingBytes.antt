-- Bytes written one part after the other, and the bytes of a slot.
use mathlib.Core.Path.{◌≡◌, refl, sym, ap, ◌∙◌}
use mathlib.Core.List.{List, [], ◌∷◌, ◌++◌, append_assoc, append-nil}
use Prim.Native.Nat.{ℕ, suc, ◌+◌, ◌-◌, ◌/◌, ◌%◌, ◌≤◌, ◌<◌}
use native.Mathlib.Omega.{arith}
use lib.ListN.{length, set, length-append}
use Rattle.columns.specs.inner.Write.{pasted}
use Rattle.columns.proofs.Laws.Pasted.{pasted-none, pasted-then, pasted-byte, pasted_length, set-pasted}
use Rattle.columns.specs.Bytes.{low_first}
use Rattle.actl.specs.Prepared.{slot, slot_bytes}

-- A mask's bytes, low byte first.
pub record Masked (mask at : ℕ) (e : List ℕ) (i rest : ℕ) (x : List ℕ) : Type 0 where
  pub bytes : List ℕ
  pub few : i ≤ 8
  pub long : length bytes ≡ i
  pub made : x ≡ pasted e at bytes
  pub left : bytes ++ low_first (8 - i) rest ≡ low_first 8 mask

pub masked_none : (mask at : ℕ) (e : List ℕ) → Masked mask at e 0 mask e
masked_none mask at e = record { bytes = []; few = omega arith; long = refl; made = pasted-none at e; left = refl }

module _ {mask at : ℕ} {e : List ℕ} {i rest : ℕ} {x : List ℕ} (fits : at + 8 ≤ length e) (m : Masked mask at e i rest x) where
  pub masked_length : length x ≡ length e
  masked_length = ap length m.made ∙ pasted_length e at m.bytes (omega (arith, m.long, m.few))

  pub masked_more : i < 8 → Masked mask at e (i + 1) (rest / 256) (set x (at + i) (rest % 256))
  masked_more h =
      let z : 8 - i ≡ suc (8 - (i + 1)) = omega arith in
      let b = rest % 256 in
      record {
        bytes = m.bytes ++ (b ∷ []);
        few = omega arith;
        long = length-append m.bytes (b ∷ []) ∙ omega (arith, m.long);
        made = pasted-byte at (at + i) b m.bytes e x m.made (ap (λ n. at + n) (sym m.long)) (omega arith);
        left = append_assoc m.bytes (b ∷ []) (low_first (8 - (i + 1)) (rest / 256)) ∙ (ap (λ n. m.bytes ++ low_first n rest) (sym z) ∙ m.left);
      }

  pub masked_all : 8 ≤ i → x ≡ pasted e at (low_first 8 mask)
  masked_all h =
      let z : 8 - i ≡ 0 = omega arith in
      m.made ∙ ap (λ l. pasted e at l) (sym (append-nil m.bytes) ∙ (ap (λ n. m.bytes ++ low_first n rest) (sym z) ∙ m.left))

-- A slot: its kind and its masks.
pub slot-pasted : (at i j k f g : ℕ) (e x y z : List ℕ) → at + 17 ≤ length e → i ≡ at + 1 → j ≡ at + 9 → x ≡ set e at k → y ≡ pasted x i (low_first 8 f)
    → z ≡ pasted y j (low_first 8 g) → z ≡ pasted e at (slot_bytes (slot k f g))
slot-pasted at i j k f g e x y z h u v p q r =
    let a : x ≡ pasted e at (k ∷ []) = p ∙ set-pasted e at k (omega arith) in
    let b : y ≡ pasted e at (k ∷ low_first 8 f) = pasted-then at i (k ∷ []) (low_first 8 f) e x y a u (omega arith) q in
    pasted-then at j (k ∷ low_first 8 f) (low_first 8 g) e y z b v (omega arith) r
