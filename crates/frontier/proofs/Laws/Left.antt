-- Loops over letters, steps and places, by what is left: a turn takes one away.
use mathlib.Core.Path.{◌≡◌, refl, sym, ap, ◌∙◌}
use mathlib.Core.Logic.{◌⊎◌, inl, inr}
use mathlib.Core.Bool.{Bool, true, false, true≢false, cond, not as negate, ◌&&◌, ◌||◌}
use mathlib.Core.List.{List, [], ◌∷◌}
use mathlib.Core.Option.{Option, none, some}
use Prim.Native.Nat.{ℕ, zero, suc, ◌+◌, ◌-◌, ◌≤◌, ◌<◌}
use native.Mathlib.Numerals.{add-one}
use native.Mathlib.Omega.{arith}
use lib.Dec.{eqb, ltb}
use lib.ListN.{length, get_or, drop, length-drop}
use lib.Seq.{drop-cons}
use borrow.Author.Tests.{ltb-false, eqb-true, eq-eqb, ne_eqb}
use Rattle.lts.specs.inner.Lists.{up_from}
use Rattle.lts.specs.Lists.{any_of as any}
use Rattle.lts.specs.Sizes.{most_labels}
use Rattle.lts.specs.Steps.{Step}
use Rattle.lts.specs.Idle.{idle_label}
use Rattle.lts.proofs.StepsFrom.{carried-within}
use Rattle.table_steps.specs.inner.StepArray.{step_at, steps_between}
use Rattle.table_steps.proofs.Laws.StepArray.{between_next, between_over}
use Rattle.automaton.specs.WordAsked.{is_bad, bad_from, bad_letter}
use Rattle.frontier.specs.inner.Frontier.{brought}
use Rattle.frontier.specs.inner.Reached.{step_taken, steps_taken, letter_read, word_read, Letters}

over : (w : List ℕ) (i : ℕ) → length w ≤ i → drop i w ≡ []
over w i h = empty (drop i w) (omega (arith, length-drop i w))
  where
    empty : (l : List ℕ) → length l ≡ 0 → l ≡ []
    empty [] e = refl
    empty (x ∷ l) e = absurd (omega arith)

-- Letters that are not checked yet.
abbrev pub bad_left : ℕ → List ℕ → ℕ → Option ℕ
bad_left labels w i = bad_from (1024 - i) i labels (drop i w)

module _ (labels : ℕ) (w : List ℕ) (i : ℕ) where
  pub bad_over : length w ≤ i → bad_left labels w i ≡ none
  bad_over h = ap (bad_from (1024 - i) i labels) (over w i h)

  pub bad_full : i ≡ 1024 → i < length w → bad_left labels w i ≡ some 1024
  bad_full e h =
      let none_left : 1024 - i ≡ 0 = omega arith in
      ap (bad_from (1024 - i) i labels) (drop-cons w i 0 h) ∙ (ap (λ n. bad_from n i labels (get_or w i 0 ∷ drop (suc i) w)) none_left ∙ ap some e)

  next_letter : i < 1024 → i < length w → bad_left labels w i ≡ cond (is_bad labels (get_or w i 0)) (some i) (bad_from (1024 - (i + 1)) (suc i) labels (drop (suc i) w))
  next_letter few h =
      let more : 1024 - i ≡ suc (1024 - (i + 1)) = omega arith in
      ap (bad_from (1024 - i) i labels) (drop-cons w i 0 h) ∙ ap (λ n. bad_from n i labels (get_or w i 0 ∷ drop (suc i) w)) more

  pub bad_here : i < 1024 → i < length w → is_bad labels (get_or w i 0) ≡ true → bad_left labels w i ≡ some i
  bad_here few h e = next_letter few h ∙ ap (λ b. cond b (some i) (bad_from (1024 - (i + 1)) (suc i) labels (drop (suc i) w))) e

  pub bad_later : i < 1024 → i < length w → is_bad labels (get_or w i 0) ≡ false → bad_left labels w i ≡ bad_left labels w (i + 1)
  bad_later few h e =
      next_letter few h ∙ (ap (λ b. cond b (some i) (bad_from (1024 - (i + 1)) (suc i) labels (drop (suc i) w))) e
      ∙ ap (λ j. bad_from (1024 - (i + 1)) j labels (drop j w)) (sym (add-one i)))

-- A word without a bad letter has only letters that steps may carry.
letter_within : (labels l : ℕ) → is_bad labels l ≡ false → (l ≤ labels) ⊎ (l ≡ idle_label)
letter_within labels l = case (ltb labels l) (eqb l idle_label) refl refl
  where
    case : (b c : Bool) → ltb labels l ≡ b → eqb l idle_label ≡ c → (b && negate c) ≡ false → (l ≤ labels) ⊎ (l ≡ idle_label)
    case true true d e n = inr (eqb-true l idle_label e)
    case true false d e n = absurd (true≢false n)
    case false c d e n = inl (ltb-false labels l d)

none_bad : (n i labels : ℕ) (w : List ℕ) → bad_from n i labels w ≡ none → (j : ℕ) → j < length w → is_bad labels (get_or w j 0) ≡ false
none_bad n i labels [] e j h = absurd (omega arith)
none_bad zero i labels (l ∷ w) e j h = let z : ◌≡◌ {A = ℕ} 0 1 = cc in absurd (omega arith)
none_bad (suc n) i labels (l ∷ w) e j h = case (is_bad labels l) refl e j h (none_bad n (suc i) labels w)
  where
    case : (b : Bool) → is_bad labels l ≡ b → cond b (some i) (bad_from n (suc i) labels w) ≡ none → (j : ℕ) → j < suc (length w)
        → (bad_from n (suc i) labels w ≡ none → (j : ℕ) → j < length w → is_bad labels (get_or w j 0) ≡ false) → is_bad labels (get_or (l ∷ w) j 0) ≡ false
    case true d e j h more = let z : ◌≡◌ {A = ℕ} 0 1 = cc in absurd (omega arith)
    case false d e zero h more = d
    case false d e (suc j) h more = more e j (omega arith)

pub letters-carried : (labels : ℕ) (w : List ℕ) → labels ≤ most_labels → bad_letter labels w ≡ none → Letters w
unfolding bad_letter
letters-carried labels w h e = record { carried = λ i l. carried-within h (letter_within labels (get_or w i 0) (none_bad 1024 0 labels w e i l)) }

-- A step with the label, and one without.
module _ (l places : ℕ) (st : Step) (next : List ℕ) where
  pub step-taken : st.label ≡ l → brought st.to places next ≡ step_taken l places st next
  step-taken e = sym (ap (λ b. cond b (brought st.to places next) next) (eq-eqb st.label l e))

  pub step-not-taken : (st.label ≡ l → ⊥) → next ≡ step_taken l places st next
  step-not-taken e = sym (ap (λ b. cond b (brought st.to places next) next) (ne_eqb st.label l e))

-- Steps that are not taken yet, from k to before `end`.
module _ (l places : ℕ) (steps : List ℕ) (s k end : ℕ) (next : List ℕ) where
  pub steps_next : k < end → (x : List ℕ) → x ≡ step_taken l places (step_at steps s k) next
      → steps_taken l places (steps_between steps s k end) next ≡ steps_taken l places (steps_between steps s (k + 1) end) x
  unfolding steps_taken
  steps_next h x e =
      ap (λ z. steps_taken l places z next) (between_next steps s k end h) ∙ ap (steps_taken l places (steps_between steps s (k + 1) end)) (sym e)

  pub steps_over : end ≤ k → steps_taken l places (steps_between steps s k end) next ≡ next
  unfolding steps_taken
  steps_over h = ap (λ z. steps_taken l places z next) (between_over steps s k end h)

-- Letters that are not read yet.
module _ (from : ℕ → List Step) (masks w : List ℕ) (i : ℕ) (reached next : List ℕ) where
  word_next : i < length w → word_read from masks (drop i w) reached next ≡ word_read from masks (drop (i + 1) w) (letter_read from masks (get_or w i 0) reached next) reached
  unfolding word_read
  word_next h =
      ap (λ v. word_read from masks v reached next) (drop-cons w i 0 h)
      ∙ ap (λ j. word_read from masks (drop j w) (letter_read from masks (get_or w i 0) reached next) reached) (sym (add-one i))

  pub word_turn : i < length w → (x : List ℕ) → x ≡ letter_read from masks (get_or w i 0) reached next → word_read from masks (drop i w) reached next ≡ word_read from masks (drop (i + 1) w) x reached
  word_turn h x e = word_next h ∙ ap (λ y. word_read from masks (drop (i + 1) w) y reached) (sym e)

  pub word_over : length w ≤ i → word_read from masks (drop i w) reached next ≡ reached
  unfolding word_read
  word_over h = ap (λ v. word_read from masks v reached next) (over w i h)

pub word_turns : (from : ℕ → List Step) (masks w : List ℕ) (i : ℕ) (reached next : List ℕ) → i + 1 < length w → (x y : List ℕ) → x ≡ letter_read from masks (get_or w i 0) reached next
    → y ≡ letter_read from masks (get_or w (i + 1) 0) x reached → word_read from masks (drop i w) reached next ≡ word_read from masks (drop (i + 2) w) y x
word_turns from masks w i reached next h x y e d =
    let two : i + 1 + 1 ≡ i + 2 = omega arith in
    word_turn from masks w i reached next (omega arith) x e ∙ (word_turn from masks w (i + 1) x reached h y d ∙ ap (λ j. word_read from masks (drop j w) y x) two)

-- Numbers that are not tested yet.
abbrev pub any_left : (ℕ → Bool) → ℕ → ℕ → Bool
any_left p n k = any p (up_from k (n - k))

module _ (p : ℕ → Bool) (n k : ℕ) where
  next-number : k < n → any_left p n k ≡ (p k || any p (up_from (suc k) (n - (k + 1))))
  next-number h = let more : n - k ≡ suc (n - (k + 1)) = omega arith in ap (λ m. any p (up_from k m)) more

  pub any_found : k < n → p k ≡ true → any_left p n k ≡ true
  any_found h e = next-number h ∙ ap (λ b. b || any p (up_from (suc k) (n - (k + 1)))) e

  pub any-later : k < n → p k ≡ false → any_left p n k ≡ any_left p n (k + 1)
  any-later h e =
      next-number h ∙ (ap (λ b. b || any p (up_from (suc k) (n - (k + 1)))) e ∙ ap (λ j. any p (up_from j (n - (k + 1)))) (sym (add-one k)))

  pub any_over : n ≤ k → any_left p n k ≡ false
  any_over h = let none_left : n - k ≡ 0 = omega arith in ap (λ m. any p (up_from k m)) none_left

pub any-start : (p : ℕ → Bool) (n : ℕ) → any p (up_from 0 n) ≡ any_left p n 0
any-start p n = let same : n ≡ n - 0 = omega arith in ap (λ m. any p (up_from 0 m)) same

pub bad_start : (labels : ℕ) (w : List ℕ) → bad_letter labels w ≡ bad_left labels w 0
unfolding bad_letter
bad_start labels w = refl
