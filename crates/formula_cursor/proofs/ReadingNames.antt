-- The longest name at a place, a byte at a time: what the reader makes of its stem and of its mark.
use mathlib.Core.Path.{◌≡◌, refl, sym, ap, ◌∙◌, subst}
use mathlib.Core.Logic.{◌⊎◌, inl, inr}
use mathlib.Core.Bool.{Bool, true, false, cond}
use mathlib.Core.List.{List, [], ◌∷◌, ◌++◌, append_assoc}
use Prim.Native.Nat.{ℕ, zero, suc, ◌+◌, ◌-◌, ◌≤◌, ◌<◌}
use native.Mathlib.Numerals.{add-one}
use native.Mathlib.Omega.{arith}
use borrow.Author.Tests.{leb-true, ltb-true, ltb-false}
use lib.Dec.{leb, ltb}
use lib.ListN.{length, get_or, drop, length-append, drop_of_length-le}
use lib.Seq.{drop-cons}
use Rattle.lts.specs.Names.{is_lower, is_name_byte, is_name}
use Rattle.lts.specs.Marks.{is_mark}
use Rattle.lts.specs.inner.NameEnds.{stem_run, stem_length, stem_end, mark_length, name_end}
use Rattle.lts.proofs.Booleans.{and-true-of, and-true-to}
use Rattle.lts.proofs.Laws.Stems.{is_stem}
use Rattle.lts.proofs.Laws.NameBytes.{stem-grows, name-ends, name-full, mark-ends}
use Rattle.lts.proofs.Laws.NameRuns.{IsStem, stem-marked, stem-named, stem-below, no-mark-at-end}
use Rattle.lts.proofs.Laws.NameDirections.{nothing_read, bare-read, mark-read}
use Rattle.actl.specs.Grammar.{Name, name}
use Rattle.actl.specs.inner.Reader.{InOperand, operand_at, naming, leave_o, plug_o, proceed, run, refused}
use Rattle.actl.specs.inner.Cursor.{peek, Named}
use Rattle.actl.proofs.Complete.{named-yes, name-start, leave_end, leave_at}
use Rattle.formula_cursor.proofs.ReadingPlaces.{byte_at, inside, get_d_any, peek-end}

pub lower_small : (b : ℕ) → is_lower b ≡ true → b < 256
lower_small b h = omega (arith, leb-true b 122 (and-true-of (leb 97 b) (leb b 122) h).1)

-- The bytes from `at` up to `to` are a name so far.
record NamePrefix (s : List ℕ) (at to : ℕ) : Type 0 where
  value : Name
  long : length value.bytes ≡ to - at
  short : to ≤ at + 13
  text : drop at s ≡ value.bytes ++ drop to s
  up : at < to
  within : to ≤ length s
  reads : (k : InOperand) → run (drop at s) (operand_at k) ≡ run (drop to s) (naming value k)

-- And they have no mark.
record StemPrefix (s : List ℕ) (at to : ℕ) : Type 0 where
  so_far : NamePrefix s at to
  stem : IsStem so_far.value.bytes
  few : to ≤ at + 12

prefix_first-peek : (s : List ℕ) (at : ℕ) → is_lower (peek s at) ≡ true → StemPrefix s at (at + 1)
prefix_first-peek s at h =
    let b = peek s at in
    let i : is_stem (b ∷ []) ≡ true = and-true-to (is_lower b) true h refl in
    let n = stem-named (b ∷ []) i in
    let d = byte_at s at b refl (lower_small b h) in
    record {
      so_far = record {
        value = record { bytes = b ∷ []; fits = n };
        long = omega arith;
        short = omega arith;
        text = d;
        up = omega arith;
        within = omega (arith, inside s at (lower_small b h));
        reads = λ k. ap (λ l. run l (operand_at k)) d ∙ ap (λ v. proceed v (run (drop (at + 1) s)) (refused (b ∷ drop (at + 1) s))) (name-start b k n);
      };
      stem = i;
      few = omega arith;
    }

prefix_first : (s : List ℕ) (at : ℕ) → at < length s → is_lower (get_or s at 0) ≡ true → StemPrefix s at (at + 1)
prefix_first s at w h = prefix_first-peek s at (ap is_lower (get_d_any s at 256 0 w) ∙ h)

module _ (s : List ℕ) (at to : ℕ) (h : NamePrefix s at to) where
  here : to < length s → drop to s ≡ get_or s to 0 ∷ drop (to + 1) s
  here w = drop-cons s to 0 w ∙ rw add-one

  -- One byte more.
  prefix_more : to < length s → to ≤ at + 12 → is_name (h.value.bytes ++ (get_or s to 0 ∷ [])) ≡ true → NamePrefix s at (to + 1)
  prefix_more w l f =
      let b = get_or s to 0 in
      let n = h.value in
      record {
        value = record { bytes = n.bytes ++ (b ∷ []); fits = f };
        long = length-append n.bytes (b ∷ []) ∙ omega (arith, h.long, h.up);
        short = omega arith;
        text = h.text ∙ (ap (λ l. n.bytes ++ l) (here w) ∙ sym (append_assoc n.bytes (b ∷ []) (drop (to + 1) s)));
        up = omega (arith, h.up);
        within = omega arith;
        reads = λ k. h.reads k ∙ (ap (λ l. run l (naming n k)) (here w)
            ∙ ap (λ v. proceed v (run (drop (to + 1) s)) (refused (b ∷ drop (to + 1) s)))
            (named-yes (n.bytes ++ (b ∷ [])) k (is_name (n.bytes ++ (b ∷ []))) refl (leave_o (name n) k b) f));
      }

  -- No more: a byte that does not belong to it, or the end of the text.
  left : ((k : InOperand) → run (drop to s) (naming h.value k) ≡ run (drop to s) (plug_o (name h.value) k)) → Named s at to
  left e = record {
    value = h.value;
    up = h.up;
    short = h.short;
    moves = record { up = omega (arith, h.up); within = h.within; text = h.text; reads = λ k. h.reads k ∙ e k };
  }

  prefix_before : to < length s → is_name (h.value.bytes ++ (get_or s to 0 ∷ [])) ≡ false → Named s at to
  prefix_before w e = left (λ k. ap (λ l. run l (naming h.value k)) (here w)
      ∙ (leave_at (get_or s to 0) (drop (to + 1) s) h.value k e ∙ ap (λ l. run l (plug_o (name h.value) k)) (sym (here w))))

  prefix_at-end : length s ≤ to → Named s at to
  prefix_at-end w =
      let d = drop_of_length-le s w in
      left (λ k. ap (λ l. run l (naming h.value k)) d
      ∙ (leave_end (name h.value) k ∙ ap (λ l. run l (plug_o (name h.value) k)) (sym d)))

-- A mark is a name's last byte.
marked_prefix : (s : List ℕ) (at to : ℕ) (h : StemPrefix s at to) → to < length s → is_mark (get_or s to 0) ≡ true → Named s at (to + 1)
unfolding prefix_more
marked_prefix s at to h w m =
    let n = h.so_far.value in
    let mark = get_or s to 0 in
    let p = prefix_more s at to h.so_far w h.few (stem-marked n.bytes mark m h.stem) in
    case p (λ b. mark-ends mark m b n.bytes) (ltb (to + 1) (length s)) refl
  where
    case : (p : NamePrefix s at (to + 1)) → ((b : ℕ) → is_name (p.value.bytes ++ (b ∷ [])) ≡ false)
        → (t : Bool) → ltb (to + 1) (length s) ≡ t → Named s at (to + 1)
    case p f true d = prefix_before s at (to + 1) p (ltb-true (to + 1) (length s) d) (f (get_or s (to + 1) 0))
    case p f false d = prefix_at-end s at (to + 1) p (ltb-false (to + 1) (length s) d)

-- To the end of the stem: the text ends there, or the stem has twelve bytes, or a byte stands there that no stem has.
abbrev StemEnds : List ℕ → ℕ → ℕ → Type 0
StemEnds s at to = (length s ≤ to) ⊎ ((12 ≤ to - at) ⊎ (is_name_byte (get_or s to 0) ≡ false))

record StemStands (s : List ℕ) (at to : ℕ) : Type 0 where
  prefix : StemPrefix s at to
  ends : StemEnds s at to

module _ (s : List ℕ) (at : ℕ) where
  run_over : (k to : ℕ) → length s ≤ to → stem_run k (drop to s) ≡ 0
  run_over zero to w = refl
  run_over (suc k) to w = ap (stem_run (suc k)) (drop_of_length-le s w)

  run_opened : (k to : ℕ) → to < length s → stem_run (suc k) (drop to s) ≡ cond (is_name_byte (get_or s to 0)) (suc (stem_run k (drop (to + 1) s))) 0
  run_opened k to w = let opened : drop to s ≡ get_or s to 0 ∷ drop (to + 1) s = drop-cons s to 0 w ∙ rw add-one in ap (stem_run (suc k)) opened

  run-stem : (k to : ℕ) → StemPrefix s at to → k + (to - at) ≡ 12 → StemStands s at (to + stem_run k (drop to s))
  unfolding prefix_more
  run-stem zero to h e = subst (StemStands s at) (let z : to ≡ to + 0 = omega arith in z) (record { prefix = h; ends = inr (inl (omega arith)) })
  run-stem (suc k) to h e =
      case (ltb to (length s)) refl (is_name_byte (get_or s to 0)) refl (λ x. run-stem k (to + 1) x (let u = h.so_far.up in omega arith))
    where
      case : (t : Bool) → ltb to (length s) ≡ t → (i : Bool) → is_name_byte (get_or s to 0) ≡ i
          → (StemPrefix s at (to + 1) → StemStands s at (to + 1 + stem_run k (drop (to + 1) s))) → StemStands s at (to + stem_run (suc k) (drop to s))
      case true d true i go_on =
          let w = ltb-true to (length s) d in
          let n = h.so_far.value in
          let f = stem-grows n.bytes (get_or s to 0) h.stem (let u = h.so_far.up in omega (arith, h.so_far.long)) i in
          let run : stem_run (suc k) (drop to s) ≡ suc (stem_run k (drop (to + 1) s))
          = run_opened k to w ∙ ap (λ t. cond t (suc (stem_run k (drop (to + 1) s))) 0) i in
          let place : to + 1 + stem_run k (drop (to + 1) s) ≡ to + stem_run (suc k) (drop to s) = omega arith in
          let u = h.so_far.up in
          let longer = prefix_more s at to h.so_far w h.few (stem-named (n.bytes ++ (get_or s to 0 ∷ [])) f) in
          let more : StemPrefix s at (to + 1) = record { so_far = longer; stem = f; few = omega arith } in
          subst (StemStands s at) place (go_on more)
      case true d false i go_on =
          let w = ltb-true to (length s) d in
          let run : stem_run (suc k) (drop to s) ≡ 0 = run_opened k to w ∙ ap (λ t. cond t (suc (stem_run k (drop (to + 1) s))) 0) i in
          let place : to ≡ to + stem_run (suc k) (drop to s) = omega arith in
          subst (StemStands s at) place (record { prefix = h; ends = inr (inr i) })
      case false d i j go_on =
          let w = ltb-false to (length s) d in
          let place : to ≡ to + stem_run (suc k) (drop to s) = omega (arith, run_over (suc k) to w) in
          subst (StemStands s at) place (record { prefix = h; ends = inl w })

  length_opened : at < length s → stem_length (drop at s) ≡ cond (is_lower (get_or s at 0)) (suc (stem_run 11 (drop (at + 1) s))) 0
  length_opened w = let opened : drop at s ≡ get_or s at 0 ∷ drop (at + 1) s = drop-cons s at 0 w ∙ rw add-one in ap stem_length opened

  module _ (end : ℕ) (e : end ≡ stem_end s at) where
    stem-stands : (end ≡ at → ⊥) → StemStands s at end
    stem-stands n = case (ltb at (length s)) refl (is_lower (get_or s at 0)) refl
      where
        case : (t : Bool) → ltb at (length s) ≡ t → (i : Bool) → is_lower (get_or s at 0) ≡ i → StemStands s at end
        case true d true i =
            let w = ltb-true at (length s) d in
            let run : stem_length (drop at s) ≡ suc (stem_run 11 (drop (at + 1) s))
            = length_opened w ∙ ap (λ t. cond t (suc (stem_run 11 (drop (at + 1) s))) 0) i in
            let place : at + 1 + stem_run 11 (drop (at + 1) s) ≡ end = omega arith in
            subst (StemStands s at) place (run-stem 11 (at + 1) (prefix_first s at w i) (omega arith))
        case true d false i =
            let run : stem_length (drop at s) ≡ 0
            = length_opened (ltb-true at (length s) d) ∙ ap (λ t. cond t (suc (stem_run 11 (drop (at + 1) s))) 0) i in
            absurd (n (omega arith))
        case false d i j = absurd (n (omega (arith, ap stem_length (drop_of_length-le s (ltb-false at (length s) d)))))

    no-stem : end ≡ at → is_lower (peek s at) ≡ false
    no-stem n = case (ltb at (length s)) refl (is_lower (get_or s at 0)) refl
      where
        case : (t : Bool) → ltb at (length s) ≡ t → (i : Bool) → is_lower (get_or s at 0) ≡ i → is_lower (peek s at) ≡ false
        case true d true i =
            let run : stem_length (drop at s) ≡ suc (stem_run 11 (drop (at + 1) s))
            = length_opened (ltb-true at (length s) d) ∙ ap (λ t. cond t (suc (stem_run 11 (drop (at + 1) s))) 0) i in
            absurd (omega arith)
        case true d false i = ap is_lower (get_d_any s at 256 0 (ltb-true at (length s) d)) ∙ i
        case false d i j = ap is_lower (peek-end s at (ltb-false at (length s) d))

    -- A stem, and the mark behind it if there is one.
    module _ (n : end ≡ at → ⊥) where
      before : end < length s → is_mark (get_or s end 0) ≡ false → (h : StemStands s at end) → Named s at end
      before w m h = case h.ends
        where
          case : StemEnds s at end → Named s at end
          case (inl d) = absurd (omega arith)
          case (inr (inl d)) =
              let full = name-full (get_or s end 0) m h.prefix.so_far.value.bytes (omega (arith, h.prefix.so_far.long)) in
              prefix_before s at end h.prefix.so_far w full
          case (inr (inr d)) = prefix_before s at end h.prefix.so_far w (name-ends (get_or s end 0) m d h.prefix.so_far.value.bytes)

      named_here : Named s at (name_end s at)
      named_here = case (ltb end (length s)) refl (is_mark (get_or s end 0)) refl
        where
          case : (t : Bool) → ltb end (length s) ≡ t → (i : Bool) → is_mark (get_or s end 0) ≡ i → Named s at (name_end s at)
          case true d true i =
              let w = ltb-true end (length s) d in
              subst (Named s at) (mark-read s at end e n (get_or s end 0) w refl i).0 (marked_prefix s at end (stem-stands n).prefix w i)
          case true d false i =
              let w = ltb-true end (length s) d in
              let none : mark_length (drop end s) ≡ 0 = ap mark_length (drop-cons s end 0 w) ∙ ap (λ t. cond t 1 0) i in
              subst (Named s at) (bare-read s at end e n none).0 (before w i (stem-stands n))
          case false d i j =
              let w = ltb-false end (length s) d in
              subst (Named s at) (bare-read s at end e n (no-mark-at-end s end w)).0 (prefix_at-end s at end (stem-stands n).prefix.so_far w)

  module _ (end : ℕ) (e : end ≡ name_end s at) where
    pub name-stands : (end ≡ at → ⊥) → Named s at end
    name-stands n = subst (Named s at) (sym e) (named_here (stem_end s at) refl (λ z. n (e ∙ (sym (nothing_read s at (stem_end s at) refl z).0 ∙ z))))

    pub no_name : end ≡ at → is_lower (peek s at) ≡ false
    no_name n = no-stem (stem_end s at) refl (omega (arith, stem-below (drop at s)))
