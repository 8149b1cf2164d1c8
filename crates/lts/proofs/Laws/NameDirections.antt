-- Laws of names and their directions: the mark tells the direction, and names that differ in the mark alone have different ones.
use mathlib.Core.Path.{◌≡◌, refl, sym, ap, ap₂, ◌∙◌, subst}
use mathlib.Core.Bool.{true, false, cond, true≢false, false≢true}
use mathlib.Core.List.{List, [], ◌∷◌, ◌++◌, append-nil}
use Prim.Native.Nat.{ℕ, zero, suc, ◌+◌, ◌<◌, ◌≤◌}
use native.Mathlib.Omega.{arith}
use borrow.Author.Tests.{ne_eqb}
use lib.Dec.{eqb}
use lib.ListN.{length, get_or, take, drop}
use lib.Seq.{drop-cons, drop-drop, take_at}
use Rattle.lts.specs.Names.{is_lower, is_name_byte, at_most, is_name}
use Rattle.lts.specs.Marks.{unmarked, is_mark}
use Rattle.lts.specs.Directions.{Direction, neither, received, sent, direction_of_mark, direction_of, same_direction, mark_of}
use Rattle.lts.specs.inner.NameEnds.{stem_length, stem_end, mark_length, with_mark, name_length, name_end, name_direction}
use Rattle.lts.proofs.Booleans.{and-true-of, or-true-left}
use Rattle.lts.proofs.Laws.Stems.{stem-is-name}
use Rattle.lts.proofs.Laws.NameRuns.{AtMost, IsStem, length_split, name-short, name_split, run-is-longest, run-is-name, stem-marked, stem-named}

-- Directions.
behind-marked : (c : ℕ) (p : List ℕ) (b : ℕ) → direction_of (c ∷ (p ++ (b ∷ []))) ≡ direction_of_mark b
behind-marked c [] b = refl
behind-marked c (d ∷ p) b = behind-marked d p b

pub direction_marked : (p : List ℕ) (b : ℕ) → direction_of (p ++ (b ∷ [])) ≡ direction_of_mark b
direction_marked [] b = refl
direction_marked (c ∷ p) b = behind-marked c p b

byte_unmarked : (b : ℕ) → is_name_byte b ≡ true → direction_of_mark b ≡ neither
byte_unmarked b h = ap (λ t. cond t received (cond (eqb b 33) sent neither)) (other 63 refl) ∙ ap (λ t. cond t sent neither) (other 33 refl)
  where
    other : (m : ℕ) → is_name_byte m ≡ false → eqb b m ≡ false
    other m f = ne_eqb b m (λ e. true≢false (sym h ∙ (ap is_name_byte e ∙ f)))

behind_unmarked : (n b : ℕ) (l : List ℕ) → is_name_byte b ≡ true → AtMost n l → direction_of (b ∷ l) ≡ neither
behind_unmarked n b [] h e = byte_unmarked b h
behind_unmarked zero b (c ∷ l) h e = absurd (false≢true e)
behind_unmarked (suc n) b (c ∷ l) h e = let p = and-true-of (is_name_byte c) (at_most unmarked n l) e in behind_unmarked n c l p.0 p.1

pub direction_unmarked : (l : List ℕ) → IsStem l → direction_of l ≡ neither
direction_unmarked [] e = absurd (false≢true e)
direction_unmarked (b ∷ l) e = let p = and-true-of (is_lower b) (at_most unmarked 11 l) e in behind_unmarked 11 b l (or-true-left (is_lower b) _ p.0) p.1

pub same_direction_lem : (d e : Direction) → same_direction d e ≡ true → d ≡ e
same_direction_lem neither neither h = refl
same_direction_lem received received h = refl
same_direction_lem sent sent h = refl
same_direction_lem neither received h = absurd (false≢true h)
same_direction_lem neither sent h = absurd (false≢true h)
same_direction_lem received neither h = absurd (false≢true h)
same_direction_lem received sent h = absurd (false≢true h)
same_direction_lem sent neither h = absurd (false≢true h)
same_direction_lem sent received h = absurd (false≢true h)

-- 02: "`clamp!`, `clamp?` and `clamp` are three names": names that differ in the mark alone have different directions.
pub direction_of-name : (p : List ℕ) (d : Direction) → IsStem p → direction_of (p ++ mark_of d) ≡ d
direction_of-name p neither h = ap direction_of (append-nil p) ∙ direction_unmarked p h
direction_of-name p received h = direction_marked p 63
direction_of-name p sent h = direction_marked p 33

pub three_names : (p : List ℕ) (d e : Direction) → IsStem p → p ++ mark_of d ≡ p ++ mark_of e → d ≡ e
three_names p d e h z = sym (direction_of-name p d h) ∙ (ap direction_of z ∙ direction_of-name p e h)

pub are-names : (p : List ℕ) (d : Direction) → IsStem p → is_name (p ++ mark_of d) ≡ true
are-names p neither h = ap is_name (append-nil p) ∙ stem-named p h
are-names p received h = stem-marked p 63 refl h
are-names p sent h = stem-marked p 33 refl h

-- The name at a place, by the byte behind its stem.
module _ (s : List ℕ) (from end : ℕ) (e : end ≡ stem_end s from) where
  abbrev t : List ℕ
  t = drop from s

  pub nothing_read : end ≡ from → (end ≡ name_end s from) × (neither ≡ name_direction s from)
  nothing_read z =
      let stem : stem_length t ≡ 0 = omega arith in
      let none : name_length t ≡ 0 = ap (λ n. with_mark n t) stem in
      (omega arith, sym (ap (λ n. direction_of (take n t)) none))

  module _ (some : end ≡ from → ⊥) where
    some-stem : 0 < stem_length t
    some-stem = omega (arith, some, e)

    here : drop (stem_length t) t ≡ drop end s
    here = drop-drop (stem_length t) from s ∙ ap (λ n. drop n s) (sym e)

    is-stem : IsStem (take (stem_length t) t)
    is-stem = (stem-is-name t some-stem).1

    pub bare-read : mark_length (drop end s) ≡ 0 → (end ≡ name_end s from) × (neither ≡ name_direction s from)
    bare-read z =
        let none : mark_length (drop (stem_length t) t) ≡ 0 = ap mark_length here ∙ z in
        let name : take (name_length t) t ≡ take (stem_length t) t =
        name_split t some-stem ∙ (ap (λ n. take (stem_length t) t ++ take n (drop (stem_length t) t)) none ∙ append-nil (take (stem_length t) t)) in
        (omega (arith, length_split t some-stem), sym (ap direction_of name ∙ direction_unmarked (take (stem_length t) t) is-stem))

    pub mark-read : (b : ℕ) → end < length s → get_or s end 0 ≡ b → is_mark b ≡ true → (end + 1 ≡ name_end s from) × (direction_of_mark b ≡ name_direction s from)
    mark-read b w g h =
        let mark : drop (stem_length t) t ≡ b ∷ drop (suc end) s = here ∙ (drop-cons s end 0 w ∙ ap (λ x. x ∷ drop (suc end) s) g) in
        let one : mark_length (drop (stem_length t) t) ≡ 1 = ap mark_length mark ∙ ap (λ x. cond x 1 0) h in
        let name : take (name_length t) t ≡ take (stem_length t) t ++ (b ∷ []) = name_split t some-stem ∙ ap₂ (λ n l. take (stem_length t) t ++ take n l) one mark in
        (omega (arith, length_split t some-stem), sym (ap direction_of name ∙ direction_marked (take (stem_length t) t) b))

-- Bytes that are a name are read whole.
pub whole_direction : (l : List ℕ) → is_name l ≡ true → name_direction l 0 ≡ direction_of l
whole_direction l e =
    let text = append-nil l in
    let least = subst (λ x. length l ≤ name_length x) text (run-is-longest l [] e) in
    let most = (run-is-name l (omega (arith, least, (name-short l e).0))).0 in
    let all : name_length l ≡ length l = omega arith in
    ap (λ n. direction_of (take n l)) all ∙ ap direction_of (ap (take (length l)) (sym text) ∙ take_at l [] (length l) refl)
