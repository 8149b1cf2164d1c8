-- Laws of `pasted`, a part written into a buffer at a place: parts behind each other and over each other, one byte, and what is read afterwards.
use mathlib.Core.Path.{◌≡◌, sym, ap, ◌∙◌}
use mathlib.Core.List.{List, [], ◌∷◌, ◌++◌, append_assoc}
use Prim.Native.Nat.{ℕ, ◌+◌, ◌-◌, ◌≤◌, ◌<◌}
use native.Mathlib.Nat.{add-zero}
use native.Mathlib.Numerals.{add-one}
use native.Mathlib.Omega.{arith}
use lib.ListN.{length, get_or, take, drop, set, length-append, length-drop, take-append-drop, get_or-append}
use lib.Seq.{length-take-le, take_at, drop-append-add, drop-drop, set_split, get_or-append-add, get_or-take, get_or-drop}
use Rattle.columns.specs.inner.Write.{pasted}

pub pasted_length : (buffer : List ℕ) (at : ℕ) (text : List ℕ) → at + length text ≤ length buffer → length (pasted buffer at text) ≡ length buffer
pasted_length buffer at text h =
    length-append (take at buffer) (text ++ drop (at + length text) buffer)
    ∙ omega (arith, length-take-le at buffer (omega arith), length-append text (drop (at + length text) buffer), length-drop (at + length text) buffer)

pub set-pasted : (buffer : List ℕ) (at b : ℕ) → at < length buffer → set buffer at b ≡ pasted buffer at (b ∷ [])
set-pasted buffer at b h = set_split buffer at b h ∙ ap (λ k. take at buffer ++ (b ∷ drop k buffer)) (sym (add-one at))

pub pasted-none : (at : ℕ) (e : List ℕ) → e ≡ pasted e at []
pasted-none at e = sym (ap (λ i. take at e ++ drop i e) (add-zero at) ∙ take-append-drop at e)

-- A part behind another.
pub pasted-then : (at i : ℕ) (l j e x y : List ℕ) → x ≡ pasted e at l → i ≡ at + length l → at + length l ≤ length e → y ≡ pasted x i j → y ≡ pasted e at (l ++ j)
pasted-then at i l j e x y p z h q =
    let u = take at e ++ l in
    let d = drop (at + length l) e in
    let a = length-take-le at e (omega arith) in
    let b : length u ≡ i = length-append (take at e) l ∙ omega arith in
    let c : x ≡ u ++ d = p ∙ sym (append_assoc (take at e) l d) in
    let f : take i x ≡ u = ap (take i) c ∙ take_at u d i b in
    let k : length u + length j ≡ i + length j = omega arith in
    let v : at + length l + length j ≡ at + length (l ++ j) = omega (arith, length-append l j) in
    let g : drop (i + length j) x ≡ drop (at + length (l ++ j)) e =
    ap (λ n. drop n x) (sym k) ∙ (ap (drop (length u + length j)) c ∙ (drop-append-add u d (length j) ∙ (drop-drop (length j) (at + length l) e ∙ ap (λ n. drop n e) v))) in
    q ∙ ((λ n. f n ++ (j ++ g n)) ∙ (append_assoc (take at e) l (j ++ drop (at + length (l ++ j)) e)
    ∙ ap (λ r. take at e ++ r) (sym (append_assoc l j (drop (at + length (l ++ j)) e)))))

-- A longer part in the place of another.
pub pasted_over : (at : ℕ) (l j e x : List ℕ) → x ≡ pasted e at l → length l ≤ length j → at + length j ≤ length e → pasted x at j ≡ pasted e at j
pasted_over at l j e x p h w =
    let u = take at e ++ l in
    let d = drop (at + length l) e in
    let a = length-take-le at e (omega arith) in
    let b : length u ≡ at + length l = length-append (take at e) l ∙ omega arith in
    let c : x ≡ u ++ d = p ∙ sym (append_assoc (take at e) l d) in
    let f : take at x ≡ take at e = ap (take at) p ∙ take_at (take at e) (l ++ d) at a in
    let k : at + length j ≡ length u + (length j - length l) = omega arith in
    let v : at + length l + (length j - length l) ≡ at + length j = omega arith in
    let g : drop (at + length j) x ≡ drop (at + length j) e =
    ap (λ n. drop n x) k ∙ (ap (drop (length u + (length j - length l))) c
    ∙ (drop-append-add u d (length j - length l) ∙ (drop-drop (length j - length l) (at + length l) e ∙ ap (λ n. drop n e) v))) in
    λ i. f i ++ (j ++ g i)

-- One byte more.
pub pasted-byte : (at i b : ℕ) (l e x : List ℕ) → x ≡ pasted e at l → i ≡ at + length l → i < length e → set x i b ≡ pasted e at (l ++ (b ∷ []))
pasted-byte at i b l e x p z h = pasted-then at i l (b ∷ []) e x _ p z (omega arith) (set-pasted x i b (omega (arith, ap length p, pasted_length e at l (omega arith))))

-- What is read from a buffer in which a part was written.
module _ (out : List ℕ) (at : ℕ) (part : List ℕ) (room : at ≤ length out) where
  abbrev behind : List ℕ
  behind = drop (at + length part) out

  front_length : length (take at out) ≡ at
  front_length = length-take-le at out room

  -- Past the part's beginning.
  pasted-from : (j : ℕ) → get_or (pasted out at part) (at + j) 0 ≡ get_or (part ++ behind) j 0
  pasted-from j = ap (λ k. get_or (pasted out at part) (k + j) 0) (sym front_length) ∙ get_or-append-add (take at out) (part ++ behind) j 0

  pub pasted-there : (j : ℕ) → j < length part → get_or (pasted out at part) (at + j) 0 ≡ get_or part j 0
  pasted-there j h = pasted-from j ∙ get_or-append part behind 0 j h

  pub pasted-before : (k : ℕ) → k < at → get_or (pasted out at part) k 0 ≡ get_or out k 0
  pasted-before k h = get_or-append (take at out) (part ++ behind) 0 k (omega (arith, front_length)) ∙ get_or-take at out k 0 h

  pub pasted-behind : (k : ℕ) → at + length part ≤ k → get_or (pasted out at part) k 0 ≡ get_or out k 0
  pasted-behind k h =
      let j = k - (at + length part) in
      let e : k ≡ at + (length part + j) = omega arith in
      let d : at + length part + j ≡ k = omega arith in
      ap (λ i. get_or (pasted out at part) i 0) e
      ∙ pasted-from (length part + j)
      ∙ get_or-append-add part behind j 0
      ∙ get_or-drop (at + length part) out j 0
      ∙ ap (λ i. get_or out i 0) d
