-- How a text grows in its buffer: by a byte, by bytes that are copied, by one text behind another, and past the buffer's end.
use mathlib.Core.Path.{◌≡◌, sym, ap, ◌∙◌, subst}
use mathlib.Core.List.{List, [], ◌∷◌, ◌++◌, append-nil, append_assoc}
use Prim.Native.Nat.{ℕ, suc, ◌+◌, ◌-◌, ◌≤◌, ◌<◌}
use native.Mathlib.Omega.{arith}
use lib.ListN.{length, take, drop, set, length-set, length-append, length-drop, drop_of_length-le}
use lib.Seq.{take-suc-set, take-append_seam, take-append-add, take-length, take_all, length-take-le}
use Rattle.actl.specs.Sizes.{longest_text}
use Rattle.formula_pieces.specs.inner.Adds.{Room, Over, Adds}

pub adds_none : (at : ℕ) (e : List ℕ) → Adds [] at e e at
adds_none at e = record { ends = omega arith; long = omega arith; made = λ h. sym (append-nil (take at e)) }

one_more : (n : ℕ) → n + 1 ≡ suc n
one_more n = omega arith

pub adds-byte : (at b : ℕ) (e : List ℕ) → at < length e → Adds (b ∷ []) at e (set e at b) (at + 1)
adds-byte at b e h = record { ends = omega arith; long = length-set e at b; made = λ _. subst (λ n. take n (set e at b) ≡ take at e ++ (b ∷ [])) (sym (one_more at)) (take-suc-set e at b h) }

-- Past the end nothing is put down any more.
pub adds-past : (l : List ℕ) (at to : ℕ) (e : List ℕ) → to ≡ at + length l → longest_text < to → Adds l at e e to
adds-past l at to e d h = record { ends = d; long = omega arith; made = λ m. absurd (omega arith) }

-- Bytes that are copied over what stands from `at` on.
module _ (at : ℕ) (src e : List ℕ) (room : at + length src ≤ length e) where
  abbrev behind : List ℕ
  behind = drop (length src) (drop at e)

  abbrev copied : List ℕ
  copied = take (length src) src ++ drop (length src) (take (length e - at) (drop at e))

  copied_whole : take at e ++ (copied ++ drop (length e - at) (drop at e)) ≡ take at e ++ (src ++ behind)
  copied_whole =
      let short : length (drop at e) ≤ length e - at = omega (arith, length-drop at e) in
      (λ i. take at e ++ ((take-length src i ++ drop (length src) (take_all (length e - at) (drop at e) short i)) ++ drop_of_length-le (drop at e) short i))
      ∙ ap (λ l. take at e ++ l) (append-nil (src ++ behind))

  adds_src : Adds src at e (take at e ++ (src ++ behind)) (at + length src)
  adds_src =
      let front : length (take at e) ≡ at = length-take-le at e (omega (arith, room)) in
      record {
        ends = omega arith;
        long = omega (arith, room, front, length-append (take at e) (src ++ behind), length-append src behind, length-drop (length src) (drop at e), length-drop at e);
        made = λ _.
            ap (λ n. take (n + length src) (take at e ++ (src ++ behind))) (sym front)
            ∙ (take-append-add (take at e) (src ++ behind) (length src) ∙ ap (λ l. take at e ++ l) (take-append_seam src behind));
      }

  pub adds_copied : {new l : List ℕ} {to : ℕ} → new ≡ copied → src ≡ l → to ≡ at + length src
      → Adds l at e (take at e ++ (new ++ drop (length e - at) (drop at e))) to
  adds_copied {new} {l} {to} d s h =
      let x : List ℕ = take at e ++ (new ++ drop (length e - at) (drop at e)) in
      let is : take at e ++ (src ++ behind) ≡ x = sym (ap (λ n. take at e ++ (n ++ drop (length e - at) (drop at e))) d ∙ copied_whole) in
      subst (λ t. Adds l at e x t) (sym h) (subst (λ (k : List ℕ). Adds k at e x (at + length src)) s (subst (λ y. Adds src at e y (at + length src)) is adds_src))

pub adds_then : {l k : List ℕ} {at m to : ℕ} {e x y : List ℕ} → Adds l at e x m → Adds k m x y to → Adds (l ++ k) at e y to
adds_then {l} {k} {at} {m} {to} {e} {x} {y} a b = record {
  ends = omega (arith, a.ends, b.ends, length-append l k);
  long = omega (arith, a.long, b.long);
  made = λ h. b.made h ∙ (ap (λ t. t ++ k) (a.made (omega (arith, b.ends))) ∙ append_assoc (take at e) l k);
}

-- The room that is left behind a text.
pub room_after : {l : List ℕ} {at n m : ℕ} {e x : List ℕ} → Room e at n → Adds l at e x m → (k : ℕ) → length l + k ≤ n → Room x m k
room_after r a k h = record { long = omega (arith, r.long, a.long); below = omega (arith, r.below, a.ends) }

pub over_after : {l : List ℕ} {at n m : ℕ} {table e x : List ℕ} → Over table e at n → Adds l at e x m → (k : ℕ) → length l + k ≤ n → Over table x m k
over_after o a k h = record { holds = o.holds; room = room_after o.room a k h }

-- A text by another name.
pub adds_same : {l k : List ℕ} {at to : ℕ} {e x : List ℕ} → k ≡ l → Adds l at e x to → Adds k at e x to
adds_same {l} {k} {at} {to} {e} {x} d a = subst (λ t. Adds t at e x to) (sym d) a
