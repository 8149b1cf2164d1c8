-- What a frontier says after places were brought to a state, and after it was emptied; and the states of its four masks.
use mathlib.Core.Path.{◌≡◌, refl, sym, ap, ◌∙◌}
use mathlib.Core.Bool.{Bool, true, false, cond, false≢true, ◌&&◌, ◌||◌}
use mathlib.Core.List.{List}
use Prim.Native.Nat.{ℕ, zero, suc, ◌+◌, ◌-◌, ◌*◌, ◌/◌, ◌%◌, ◌^◌, ◌≤◌, ◌<◌}
use native.Mathlib.Decide.{dec_lt, ℕ_discrete}
use native.Mathlib.Omega.{arith}
use lib.Bits.{bit_or}
use lib.Dec.{eqb}
use lib.ListN.{length, get_or, set, length-set}
use lib.Seq.{get_or-set_same, get_or-set_other}
use borrow.Author.Tests.{eq-eqb, ne_eqb}
use Rattle.frontier.specs.inner.Sizes.{frontier_length}
use Rattle.lts.proofs.Booleans.{or_true_right, or-false}
use Rattle.bits.specs.inner.Bits.{bit_at}
use Rattle.bits.proofs.Laws.Bits.{bit_or_lem, bit_zero, bit_pow}
use Rattle.bits.proofs.Laws.Zeros.{zero-here, zero-kept}
use Rattle.target_masks.proofs.Laws.Places.{zeros-at}
use Rattle.frontier.specs.inner.Frontier.{marks_at, has_state, places_at, nowhere, emptied, brought, FirstFrom}

-- Place q of state v is reached.
abbrev pub reached_at : List ℕ → ℕ → ℕ → Bool
reached_at frontier v q = bit_at (places_at frontier v) q

module _ (frontier : List ℕ) (v q : ℕ) where
  pub reached-of : reached_at frontier v q ≡ true → (has_state frontier v ≡ true) × (bit_at (get_or frontier v 0) q ≡ true)
  reached-of = case (has_state frontier v)
    where
      case : (b : Bool) → bit_at (cond b (get_or frontier v 0) 0) q ≡ true → (b ≡ true) × (bit_at (get_or frontier v 0) q ≡ true)
      case true h = (refl, h)
      case false h = absurd (false≢true (sym (bit_zero q) ∙ h))

  pub reached-to : has_state frontier v ≡ true → bit_at (get_or frontier v 0) q ≡ true → reached_at frontier v q ≡ true
  reached-to e h = ap (λ b. bit_at (cond b (get_or frontier v 0) 0) q) e ∙ h

and_yes : (b : Bool) → b ≡ (b && true)
and_yes true = refl
and_yes false = refl

pub and_no : (b : Bool) → false ≡ (b && false)
and_no true = refl
and_no false = refl

-- Without marks nothing is reached.
unmarked : (frontier : List ℕ) (v q : ℕ) → marks_at frontier v ≡ 0 → reached_at frontier v q ≡ false
unmarked frontier v q e = ap (λ b. bit_at (cond b (get_or frontier v 0) 0) q) (ap (λ m. bit_at m (v % 64)) e ∙ bit_zero (v % 64)) ∙ bit_zero q

pub nowhere-reached : (v q : ℕ) → reached_at nowhere v q ≡ false
nowhere-reached v q = unmarked nowhere v q (zeros-at frontier_length (256 + v / 64))

module _ (frontier : List ℕ) where
  abbrev one : List ℕ
  one = set frontier 256 0

  abbrev two : List ℕ
  two = set one 257 0

  abbrev three : List ℕ
  three = set two 258 0

  marks-emptied : (w : ℕ) → w < 4 → get_or (emptied frontier) (256 + w) 0 ≡ 0
  marks-emptied zero h = zero-kept three 259 256 (zero-kept two 258 256 (zero-kept one 257 256 (zero-here frontier 256)))
  marks-emptied (suc zero) h = zero-kept three 259 257 (zero-kept two 258 257 (zero-here one 257))
  marks-emptied (suc (suc zero)) h = zero-kept three 259 258 (zero-here two 258)
  marks-emptied (suc (suc (suc zero))) h = zero-here three 259
  marks-emptied (suc (suc (suc (suc w)))) h = absurd (omega arith)

  pub emptied-reached : (v q : ℕ) → v < 256 → reached_at (emptied frontier) v q ≡ false
  emptied-reached v q h = unmarked (emptied frontier) v q (marks-emptied (v / 64) (omega arith))

  pub length-emptied : length (emptied frontier) ≡ length frontier
  length-emptied = simp length-set

module _ (s m : ℕ) (frontier : List ℕ) where
  pub length-brought : length (brought s m frontier) ≡ length frontier
  unfolding brought
  length-brought = simp length-set

  abbrev places : ℕ
  places = bit_or (places_at frontier s) m

  abbrev marks : ℕ
  marks = bit_or (marks_at frontier s) (2 ^ (s % 64))

  module _ (few : s < 256) (long : length frontier ≡ frontier_length) where
    within : 256 + s / 64 < length (set frontier s places)
    within = omega (arith, length-set frontier s places)

    places-here : places_at (brought s m frontier) s ≡ places
    unfolding brought
    places-here =
        let marked : has_state (brought s m frontier) s ≡ true =
        ap (λ n. bit_at n (s % 64)) (get_or-set_same (set frontier s places) (256 + s / 64) marks 0 within)
        ∙ (bit_or_lem (marks_at frontier s) (2 ^ (s % 64)) (s % 64) ∙ or_true_right (has_state frontier s) _ (bit_pow (s % 64) (s % 64) ∙ eq-eqb (s % 64) (s % 64) refl)) in
        ap (λ b. cond b (get_or (brought s m frontier) s 0) 0) marked
        ∙ (get_or-set_other (set frontier s places) (256 + s / 64) s marks 0 (λ u. omega arith) ∙ get_or-set_same frontier s places 0 (omega arith))

    state-other : (v : ℕ) → v < 256 → (v ≡ s → ⊥) → Dec (v / 64 ≡ s / 64) → has_state (brought s m frontier) v ≡ has_state frontier v
    unfolding brought
    state-other v h n (yes e) =
        let word : 256 + v / 64 ≡ 256 + s / 64 = omega arith in
        let apart : eqb (v % 64) (s % 64) ≡ false = ne_eqb (v % 64) (s % 64) (λ u. n (omega arith)) in
        ap (λ n. bit_at n (v % 64)) (ap (λ i. get_or (brought s m frontier) i 0) word ∙ get_or-set_same (set frontier s places) (256 + s / 64) marks 0 within)
        ∙ (bit_or_lem (marks_at frontier s) (2 ^ (s % 64)) (v % 64)
        ∙ (ap (λ b. bit_at (marks_at frontier s) (v % 64) || b) (bit_pow (s % 64) (v % 64) ∙ apart)
        ∙ (sym (or-false _) ∙ ap (λ i. bit_at (get_or frontier i 0) (v % 64)) (sym word))))
    state-other v h n (no e) =
        ap (λ n. bit_at n (v % 64))
        (get_or-set_other (set frontier s places) (256 + s / 64) (256 + v / 64) marks 0 (λ u. e (omega arith)) ∙ get_or-set_other frontier s (256 + v / 64) places 0 (λ u. omega arith))

    places-other : (v : ℕ) → v < 256 → (v ≡ s → ⊥) → places_at (brought s m frontier) v ≡ places_at frontier v
    unfolding brought
    places-other v h n =
        let state = state-other v h n (ℕ_discrete (v / 64) (s / 64)) in
        let kept : get_or (brought s m frontier) v 0 ≡ get_or frontier v 0 =
        get_or-set_other (set frontier s places) (256 + s / 64) v marks 0 (λ u. omega arith) ∙ get_or-set_other frontier s v places 0 n in
        (λ i. cond (state i) (kept i) 0)

    pub brought-reached : (v q : ℕ) → v < 256 → reached_at (brought s m frontier) v q ≡ (reached_at frontier v q || (bit_at m q && eqb v s))
    brought-reached v q h = case (ℕ_discrete v s)
      where
        case : Dec (v ≡ s) → reached_at (brought s m frontier) v q ≡ (reached_at frontier v q || (bit_at m q && eqb v s))
        case (yes e) =
            ap (λ x. reached_at (brought s m frontier) x q) e
            ∙ (ap (λ n. bit_at n q) places-here
            ∙ (bit_or_lem (places_at frontier s) m q
            ∙ (ap (λ b. reached_at frontier s q || b) (and_yes (bit_at m q) ∙ ap (λ b. bit_at m q && b) (sym (eq-eqb v s e))) ∙ ap (λ x. reached_at frontier x q || (bit_at m q && eqb v s)) (sym e))))
        case (no e) =
            ap (λ n. bit_at n q) (places-other v h e)
            ∙ (or-false (reached_at frontier v q) ∙ ap (λ b. reached_at frontier v q || b) (and_no (bit_at m q) ∙ ap (λ b. bit_at m q && b) (sym (ne_eqb v s e))))

-- The states of one of the four masks, from v on.
module _ (frontier : List ℕ) (s v k : ℕ) (few : v < 256) (from : s ≤ v) (past : (j : ℕ) → s ≤ j → j < v → has_state frontier j ≡ false)
    (h : FirstFrom (bit_at (marks_at frontier v)) (v % 64) 64 k) where
  same_word : (j : ℕ) → v / 64 * 64 ≤ j → j < v / 64 * 64 + 64 → has_state frontier j ≡ bit_at (marks_at frontier v) (j - v / 64 * 64)
  same_word j a b =
      let word : 256 + j / 64 ≡ 256 + v / 64 = omega arith in
      let bit : j % 64 ≡ j - v / 64 * 64 = omega arith in
      (λ i. bit_at (get_or frontier (word i) 0) (bit i))

  passed : (j : ℕ) → s ≤ j → j < v / 64 * 64 + k → j < v / 64 * 64 + 64 → Dec (j < v) → has_state frontier j ≡ false
  passed j a b c (yes d) = past j a d
  passed j a b c (no d) = same_word j (omega arith) c ∙ h.none (j - v / 64 * 64) (omega arith) (omega arith)

  pub state-found : k < 64 → FirstFrom (has_state frontier) s 256 (v / 64 * 64 + k)
  state-found b = record {
    from = omega (arith, h.from);
    none = λ j x y. passed j x y (omega arith) (dec_lt j v);
    found = λ x. same_word (v / 64 * 64 + k) (omega arith) (omega arith) ∙ (ap (bit_at (marks_at frontier v)) (omega arith) ∙ h.found b);
  }

  pub state-later : 64 ≤ k → (j : ℕ) → s ≤ j → j < v / 64 * 64 + 64 → has_state frontier j ≡ false
  state-later b j x y = passed j x (omega arith) y (dec_lt j v)
