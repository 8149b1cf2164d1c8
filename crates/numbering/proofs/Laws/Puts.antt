-- Bytes put one behind the other: what is left of them gives the same bytes at the end.
use mathlib.Core.Path.{◌≡◌, refl, sym, ap, ◌∙◌}
use mathlib.Core.Bool.{Bool, cond}
use mathlib.Core.List.{List, [], ◌∷◌, ◌++◌, map}
use Prim.Native.Nat.{ℕ, suc, ◌+◌, ◌-◌, ◌*◌, ◌<◌, ◌≤◌}
use native.Mathlib.Omega.{arith}
use lib.ListN.{length, get_or, take, length-append, drop_of_length-le}
use lib.Seq.{length-take-le, slice, slice-cons}
use borrow.Author.Tests.{lt-ltb, le-ltb}
use Rattle.columns.specs.inner.Write.{pasted}
use Rattle.columns.proofs.Laws.Pasted.{pasted-none, pasted-then, pasted_length}
use Rattle.deterministic.specs.Sizes.{most_letters}
use Rattle.deterministic.specs.inner.Arrays.{letter_of}
use Rattle.block_numbers.specs.inner.Found.{goal}
use Rattle.numbering.specs.inner.Written.{Put, mark_of, step_in, steps_in, edges_in}

pub put-none : {bytes : List ℕ} (out : List ℕ) (at : ℕ) → bytes ≡ [] → Put bytes out at out at
put-none out at e = record { is = pasted-none at out ∙ ap (pasted out at) (sym e); ends = omega (arith, ap length e) }

pub put_as : {bytes other out after : List ℕ} {at end : ℕ} → bytes ≡ other → Put bytes out at after end → Put other out at after end
put_as {out} {at} e p = record { is = p.is ∙ ap (pasted out at) e; ends = omega (arith, ap length e, p.ends) }

-- With the bytes that are left, from `at` on, the last ones are reached, and their end.
pub record Left (bytes now : List ℕ) (at : ℕ) (last : List ℕ) (end : ℕ) : Type 0 where
  pub is : pasted now at bytes ≡ last
  pub ends : at + length bytes ≡ end
  pub room : at + length bytes ≤ length now

pub left-start : (bytes before : List ℕ) (at : ℕ) → at + length bytes ≤ length before → Left bytes before at (pasted before at bytes) (at + length bytes)
left-start bytes before at h = record { is = refl; ends = refl; room = h }

module _ {now last : List ℕ} {at end : ℕ} where
  -- What is left, in another form.
  pub left_as : {bytes other : List ℕ} → bytes ≡ other → Left bytes now at last end → Left other now at last end
  left_as {bytes} {other} e l = record {
    is = ap (pasted now at) (sym e) ∙ l.is;
    ends = omega (arith, ap length e, l.ends);
    room = omega (arith, ap length e, l.room);
  }

  pub part_room : (part rest : List ℕ) → Left (part ++ rest) now at last end → at + length part ≤ length now
  part_room part rest l = omega (arith, l.room, length-append part rest)

  pub left_after : (part rest : List ℕ) → Left (part ++ rest) now at last end → {then : List ℕ} {to : ℕ} → Put part now at then to → Left rest then to last end
  left_after part rest l {then} {to} p = record {
    is = pasted-then at to part rest now then (pasted then to rest) p.is p.ends (part_room part rest l) refl ∙ l.is;
    ends = omega (arith, p.ends, l.ends, length-append part rest);
    room = omega (arith, p.ends, l.room, length-append part rest, ap length p.is, pasted_length now at part (part_room part rest l));
  }

  pub left_done : {bytes : List ℕ} → bytes ≡ [] → Left bytes now at last end → (now ≡ last) × (at ≡ end)
  left_done {bytes} e l =
      let m = left_as e l in
      (pasted-none at now ∙ m.is, omega (arith, m.ends))

-- The marks by row.
module _ (marks : List Bool) (rows : List ℕ) (i count : ℕ) where
  pub marks_turn : i < count → count ≤ length rows → map (mark_of marks) (slice i count rows) ≡ (mark_of marks (get_or rows i 0) ∷ []) ++ map (mark_of marks) (slice (i + 1) count rows)
  marks_turn h k =
      let e : suc i ≡ i + 1 = omega arith in
      ap (map (mark_of marks)) (slice-cons i count rows 0 h k) ∙ ap (λ j. mark_of marks (get_or rows i 0) ∷ map (mark_of marks) (slice j count rows)) e

  pub marks_over : count ≤ i → count ≤ length rows → map (mark_of marks) (slice i count rows) ≡ []
  marks_over h k = ap (map (mark_of marks)) (drop_of_length-le (take count rows) {i = i} (omega (arith, length-take-le count rows k)))

-- The edges by column and by row.
module _ (next blocks numbers : List ℕ) (n columns : ℕ) where
  module _ (i first c : ℕ) where
    pub step-none : n ≤ get_or next (first + c) 0 → step_in next blocks numbers n columns i first c ≡ []
    step-none h = ap (λ s. cond s (i ∷ letter_of columns c ∷ (get_or numbers (goal next blocks n (first + c)) 0 - 1) ∷ []) []) (le-ltb (get_or next (first + c) 0) n h)

    pub step-one : get_or next (first + c) 0 < n → step_in next blocks numbers n columns i first c ≡ i ∷ letter_of columns c ∷ (get_or numbers (goal next blocks n (first + c)) 0 - 1) ∷ []
    step-one h = ap (λ s. cond s (i ∷ letter_of columns c ∷ (get_or numbers (goal next blocks n (first + c)) 0 - 1) ∷ []) []) (lt-ltb (get_or next (first + c) 0) n h)

    pub steps_turn : c < columns → steps_in next blocks numbers n columns i first c (columns - c)
        ≡ step_in next blocks numbers n columns i first c ++ steps_in next blocks numbers n columns i first (c + 1) (columns - (c + 1))
    unfolding steps_in
    steps_turn h =
        let e : columns - c ≡ suc (columns - (c + 1)) = omega arith in
        let d : suc c ≡ c + 1 = omega arith in
        ap (steps_in next blocks numbers n columns i first c) e ∙ ap (λ k. step_in next blocks numbers n columns i first c ++ steps_in next blocks numbers n columns i first k (columns - (c + 1))) d

    pub steps_over : columns ≤ c → steps_in next blocks numbers n columns i first c (columns - c) ≡ []
    unfolding steps_in
    steps_over h = let e : columns - c ≡ 0 = omega arith in ap (steps_in next blocks numbers n columns i first c) e

  module _ (rows : List ℕ) (i count : ℕ) where
    pub edges_turn : i < count → edges_in next blocks numbers n columns rows i (count - i)
        ≡ steps_in next blocks numbers n columns i (get_or rows i 0 * most_letters) 0 columns ++ edges_in next blocks numbers n columns rows (i + 1) (count - (i + 1))
    unfolding edges_in
    edges_turn h =
        let e : count - i ≡ suc (count - (i + 1)) = omega arith in
        let d : suc i ≡ i + 1 = omega arith in
        ap (edges_in next blocks numbers n columns rows i) e
        ∙ ap (λ k. steps_in next blocks numbers n columns i (get_or rows i 0 * most_letters) 0 columns ++ edges_in next blocks numbers n columns rows k (count - (i + 1))) d

    pub edges_over : count ≤ i → edges_in next blocks numbers n columns rows i (count - i) ≡ []
    unfolding edges_in
    edges_over h = let e : count - i ≡ 0 = omega arith in ap (edges_in next blocks numbers n columns rows i) e
