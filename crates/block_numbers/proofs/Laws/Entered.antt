-- Laws of the rows found: one more, and those of a row's entries.
use mathlib.Core.Path.{◌≡◌, refl, sym, ap, ◌∙◌}
use mathlib.Core.Bool.{Bool, true, false, cond}
use mathlib.Core.List.Memᴰ
use mathlib.Core.List.{List, [], ◌∷◌, ◌++◌, Memᴰ}
use mathlib.Core.Logic.{◌⊎◌, inl, inr}
use Prim.Native.Nat.{ℕ, zero, suc, ◌+◌, ◌-◌, ◌<◌, ◌≤◌}
use native.Mathlib.Decide.{ℕ_discrete}
use native.Mathlib.Numerals.{add-one}
use native.Mathlib.Omega.{arith}
use lib.Dec.{eqb}
use lib.ListN.{length, get_or, take, set, replicate, length-append, length-set, length-replicate}
use lib.Seq.{length-take-le, take-suc-set, get_or-set_same, get_or-set_other}
use borrow.Author.Tests.{eqb-true, eq-eqb, ne_eqb, ltb-true, ltb-false, lt-ltb, le-ltb}
use Rattle.lts.specs.inner.Lists.{up_from}
use Rattle.lts.proofs.Lists.{rising_append, up_from-to, up_from-length}
use Rattle.deterministic.specs.Sizes.{most_sets}
use Rattle.deterministic.specs.inner.Search.{number_of, seen}
use Rattle.deterministic.proofs.ListLaws.{fits}
use Rattle.deterministic.proofs.Numbers.{Tests, number_append, number_past, number_new, unseen}
use Rattle.block_numbers.specs.inner.Found.{added, slot_of, Rows, Within, leads, goal, taken, taken_from, count_from}

abbrev pub tests : Tests eqb
tests = record { of = eqb-true; to = eq-eqb }

-- What stands for a block.
pub slot_seen : (l : List ℕ) (b : ℕ) → number_of eqb l b < length l → slot_of l b ≡ suc (number_of eqb l b)
slot_seen l b h = ap (λ s. cond s (suc (number_of eqb l b)) 0) (lt-ltb (number_of eqb l b) (length l) h)

slot_unseen : (l : List ℕ) (b : ℕ) → length l ≤ number_of eqb l b → slot_of l b ≡ 0
slot_unseen l b h = ap (λ s. cond s (suc (number_of eqb l b)) 0) (le-ltb (number_of eqb l b) (length l) h)

slot_new : (l : List ℕ) (b : ℕ) → length l ≤ number_of eqb l b → slot_of (l ++ (b ∷ [])) b ≡ suc (length l)
slot_new l b h =
    let e = number_new tests l b h in
    slot_seen (l ++ (b ∷ [])) b (omega (arith, e, length-append l (b ∷ []))) ∙ ap suc e

slot-other : (l : List ℕ) (b d : ℕ) → (d ≡ b → ⊥) → slot_of (l ++ (b ∷ [])) d ≡ slot_of l d
unfolding number_of
slot-other l b d n = case (seen eqb l d) refl
  where
    case : (s : Bool) → seen eqb l d ≡ s → slot_of (l ++ (b ∷ [])) d ≡ slot_of l d
    case true e =
        let h = ltb-true (number_of eqb l d) (length l) e in
        let z = number_append tests l (b ∷ []) d h in
        slot_seen (l ++ (b ∷ [])) d (omega (arith, z, length-append l (b ∷ []))) ∙ (ap suc z ∙ sym (slot_seen l d h))
    case false e =
        let h = ltb-false (number_of eqb l d) (length l) e in
        let one : ◌≡◌ {A = ℕ} (cond (eqb b d) 0 1) 1 = ap (λ s. cond s 0 1) (ne_eqb b d (λ z. n (sym z))) in
        let z : number_of eqb (l ++ (b ∷ [])) d ≡ length l + cond (eqb b d) 0 1 = number_past tests l (b ∷ []) d h in
        slot_unseen (l ++ (b ∷ [])) d (omega (arith, z, one, length-append l (b ∷ []))) ∙ sym (slot_unseen l d h)

-- No rows.
zeros : (m b : ℕ) → ◌≡◌ {A = ℕ} (get_or (replicate m 0) b 0) 0
zeros zero b = refl
zeros (suc m) zero = refl
zeros (suc m) (suc b) = zeros m b

pub rows_none : Rows (replicate most_sets 0) (replicate most_sets 0) 0
unfolding number_of
rows_none = record { long = length-replicate {A = ℕ} most_sets 0; wide = length-replicate {A = ℕ} most_sets 0; few = omega arith; numbered = zeros most_sets }

-- Entering a block.
module _ {rows numbers : List ℕ} {count : ℕ} (r : Rows rows numbers count) (b : ℕ) where
  abbrev L : List ℕ
  L = take count rows

  pub rows-length : length L ≡ count
  rows-length = length-take-le count rows (omega (arith, r.long, r.few))

  is_unseen : get_or numbers b 0 ≡ 0 → seen eqb L b ≡ false
  is_unseen e = case (seen eqb L b) (sym (r.numbered b) ∙ e)
    where
      case : (s : Bool) → cond s (suc (number_of eqb L b)) 0 ≡ 0 → s ≡ false
      case true z = absurd (omega arith)
      case false z = refl

  is_seen : (get_or numbers b 0 ≡ 0 → ⊥) → seen eqb L b ≡ true
  is_seen n = case (seen eqb L b) refl
    where
      case : (s : Bool) → seen eqb L b ≡ s → s ≡ true
      case true z = refl
      case false z = absurd (n (r.numbered b ∙ ap (λ s. cond s (suc (number_of eqb L b)) 0) z))

  pub added_old : (get_or numbers b 0 ≡ 0 → ⊥) → L ≡ added L b
  added_old n = sym (ap (λ s. cond s L (L ++ (b ∷ []))) (is_seen n))

  added_new : get_or numbers b 0 ≡ 0 → added L b ≡ L ++ (b ∷ [])
  added_new e = ap (λ s. cond s L (L ++ (b ∷ []))) (is_unseen e)

  pub new_fits : get_or numbers b 0 ≡ 0 → length (added L b) ≤ most_sets → count < most_sets
  new_fits e h = omega (arith, h, ap length (added_new e), length-append L (b ∷ []), rows-length)

  module _ (e : get_or numbers b 0 ≡ 0) (small : b < most_sets) (h : length (added L b) ≤ most_sets) where
    longer : take (count + 1) (set rows count b) ≡ L ++ (b ∷ [])
    longer = ap (λ k. take k (set rows count b)) (add-one count) ∙ take-suc-set rows count b (omega (arith, r.long, new_fits e h))

    pub rows-longer : take (count + 1) (set rows count b) ≡ added L b
    rows-longer = longer ∙ sym (added_new e)

    pub rows_new : Rows (set rows count b) (set numbers b (count + 1)) (count + 1)
    rows_new = record {
      long = length-set rows count b ∙ r.long;
      wide = length-set numbers b (count + 1) ∙ r.wide;
      few = omega (arith, new_fits e h);
      numbered = λ d. slot d (ℕ_discrete d b) ∙ sym (ap (λ l. slot_of l d) longer);
    }
      where
        slot : (d : ℕ) → Dec (d ≡ b) → get_or (set numbers b (count + 1)) d 0 ≡ slot_of (L ++ (b ∷ [])) d
        slot d (yes z) =
            let new : slot_of (L ++ (b ∷ [])) b ≡ suc (length L) = slot_new L b (unseen tests L b (is_unseen e)).0 in
            let same : suc (length L) ≡ count + 1 = omega (arith, rows-length) in
            ap (λ k. get_or (set numbers b (count + 1)) k 0) z ∙ (get_or-set_same numbers b (count + 1) 0 (omega (arith, r.wide))
            ∙ (sym (new ∙ same) ∙ sym (ap (slot_of (L ++ (b ∷ []))) z)))
        slot d (no z) = get_or-set_other numbers b d (count + 1) 0 z ∙ (r.numbered d ∙ sym (slot-other L b d z))

-- Blocks below n, each once, are at most n.
pub within-few : {n : ℕ} {l : List ℕ} → Within n l → length l ≤ n
within-few {n} {l} w = omega (arith, fits l (up_from 0 n) w.distinct (λ b m. up_from-to 0 n b (omega arith) (omega (arith, w.inside b m))), up_from-length 0 n)

pub within_none : (n : ℕ) → Within n []
within_none n = record { distinct = tt; inside = λ b m. absurd (Memᴰ.not-nil m) }

pub within-added : {n : ℕ} {l : List ℕ} → Within n l → (b : ℕ) → b < n → Within n (added l b)
within-added {n} {l} w b h = case (seen eqb l b) refl
  where
    below : (d : ℕ) → Memᴰ d l ⊎ Memᴰ d (b ∷ []) → d < n
    below d (inl m) = w.inside d m
    below d (inr m) = omega (arith, Memᴰ.eq_of_singleton m)

    case : (s : Bool) → seen eqb l b ≡ s → Within n (cond s l (l ++ (b ∷ [])))
    case true e = w
    case false e = record {
      distinct = rising_append (λ (x y : ℕ). x ≡ y → ⊥) l (b ∷ []) w.distinct (λ y m. absurd (Memᴰ.not-nil m), tt)
          (λ x y a m z. (unseen tests l b e).1 (Memᴰ.cast (sym (z ∙ Memᴰ.eq_of_singleton m)) a));
      inside = λ d m. below d (Memᴰ.append_cases l m);
    }

-- One entry.
module _ (next blocks : List ℕ) (n at : ℕ) where
  leads-none : n ≤ get_or next at 0 → leads next blocks n at ≡ false
  leads-none h = le-ltb (get_or next at 0) n h

  leads_one : get_or next at 0 < n → leads next blocks n at ≡ true
  leads_one h = lt-ltb (get_or next at 0) n h

  pub count_none : n ≤ get_or next at 0 → ◌≡◌ {A = ℕ} (cond (leads next blocks n at) 1 0) 0
  count_none h = ap (λ s. cond s 1 0) (leads-none h)

  pub count-one : get_or next at 0 < n → ◌≡◌ {A = ℕ} (cond (leads next blocks n at) 1 0) 1
  count-one h = ap (λ s. cond s 1 0) (leads_one h)

  pub taken_none : (l : List ℕ) → n ≤ get_or next at 0 → taken next blocks n at l ≡ l
  taken_none l h = ap (λ s. cond s (added l (goal next blocks n at)) l) (leads-none h)

  pub taken-one : (l : List ℕ) → get_or next at 0 < n → taken next blocks n at l ≡ added l (goal next blocks n at)
  taken-one l h = ap (λ s. cond s (added l (goal next blocks n at)) l) (leads_one h)

-- What is left of the entries before `end`.
module _ (next blocks : List ℕ) (n : ℕ) where
  pub taken_turn : (at end : ℕ) → at < end → (l : List ℕ) → taken_from next blocks n at (end - at) l ≡ taken_from next blocks n (at + 1) (end - (at + 1)) (taken next blocks n at l)
  unfolding taken_from
  taken_turn at end h l =
      let e : end - at ≡ suc (end - (at + 1)) = omega arith in
      let d : suc at ≡ at + 1 = omega arith in
      ap (λ k. taken_from next blocks n at k l) e ∙ ap (λ k. taken_from next blocks n k (end - (at + 1)) (taken next blocks n at l)) d

  pub taken_over : (at end : ℕ) → end ≤ at → (l : List ℕ) → taken_from next blocks n at (end - at) l ≡ l
  unfolding taken_from
  taken_over at end h l = let e : end - at ≡ 0 = omega arith in ap (λ k. taken_from next blocks n at k l) e

  pub count_turn : (at end : ℕ) → at < end → count_from next blocks n at (end - at) ≡ cond (leads next blocks n at) 1 0 + count_from next blocks n (at + 1) (end - (at + 1))
  unfolding count_from
  count_turn at end h =
      let e : end - at ≡ suc (end - (at + 1)) = omega arith in
      let d : suc at ≡ at + 1 = omega arith in
      ap (count_from next blocks n at) e ∙ ap (λ k. cond (leads next blocks n at) 1 0 + count_from next blocks n k (end - (at + 1))) d

  pub count_over : (at end : ℕ) → end ≤ at → count_from next blocks n at (end - at) ≡ 0
  unfolding count_from
  count_over at end h = let e : end - at ≡ 0 = omega arith in ap (count_from next blocks n at) e

-- Entries that lead to a state are at most all.
pub count-few : (next blocks : List ℕ) (n at k : ℕ) → count_from next blocks n at k ≤ k
unfolding count_from
count-few next blocks n at zero = omega arith
count-few next blocks n at (suc k) = step (leads next blocks n at) (count-few next blocks n (suc at) k)
  where
    step : (s : Bool) → count_from next blocks n (suc at) k ≤ k → cond s 1 0 + count_from next blocks n (suc at) k ≤ suc k
    step true h = omega arith
    step false h = omega arith
