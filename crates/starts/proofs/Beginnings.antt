-- The search for a wrong entry, entry by entry, and that the first 257 entries decide.
use mathlib.Core.Path.{◌≡◌, refl, sym, ap, ◌∙◌}
use mathlib.Core.Bool.{Bool, true, false, cond}
use mathlib.Core.List.{List, [], ◌∷◌, ◌++◌}
use mathlib.Core.Option.{Option, none, some}
use Prim.Native.Nat.{ℕ, suc, ◌+◌, ◌≤◌, ◌<◌, min}
use native.Mathlib.Numerals.{add-one}
use native.Mathlib.Omega.{arith}
use lib.Dec.{leb}
use lib.ListN.{length, get_or, take, drop, take-append-drop, length-append}
use lib.Seq.{length-take-le, take_all, take-suc}
use borrow.Author.Tests.{leb-true, leb-false}
use Rattle.lts.specs.Sizes.{most_states}
use Rattle.starts.specs.Starts.{is_right, wrong_from, wrong_start}
use Rattle.starts.specs.inner.Search.{earlier, least_after, enough_starts}
use Rattle.starts.proofs.Wrong.{too_many}

module _ (states : ℕ) where
  -- An entry behind a list.
  abbrev one_more : ℕ → ℕ → ℕ → Option ℕ
  one_more least i s = cond (is_right states least s) none (some i)

  wrong-one-more : (least i : ℕ) (l : List ℕ) (s : ℕ)
      → wrong_from states least i (l ++ (s ∷ [])) ≡ earlier (wrong_from states least i l) (one_more (least_after least l) (i + length l) s)
  wrong-one-more least i [] s = ap (λ k. cond (is_right states least s) none (some k)) (omega arith)
  wrong-one-more least i (r ∷ l) s =
      let one = one_more (least_after (suc r) l) in
      let later = wrong_from states (suc r) (suc i) l in
      by (is_right states least r) later (one (i + suc (length l)) s)
      (wrong-one-more (suc r) (suc i) l s ∙ ap (λ k. earlier later (one k s)) (omega arith))
    where
      by : (b : Bool) {x : Option ℕ} (y z : Option ℕ) → x ≡ earlier y z → cond b x (some i) ≡ earlier (cond b y (some i)) z
      by true y z e = e
      by false y z e = refl

  -- What comes behind a wrong entry does not count.
  wrong_stays : (least i : ℕ) (l m : List ℕ) (k : ℕ) → wrong_from states least i l ≡ some k → wrong_from states least i (l ++ m) ≡ some k
  wrong_stays least i [] m k e = let z : ◌≡◌ {A = ℕ} 0 1 = cc in absurd (omega arith)
  wrong_stays least i (r ∷ l) m k e = by (is_right states least r) (wrong_stays (suc r) (suc i) l m k) e
    where
      by : (b : Bool) {x y : Option ℕ} → (x ≡ some k → y ≡ some k) → cond b x (some i) ≡ some k → cond b y (some i) ≡ some k
      by true h d = h d
      by false h d = d

  least_after_lem : (least : ℕ) (l : List ℕ) (s : ℕ) → least_after least (l ++ (s ∷ [])) ≡ suc s
  least_after_lem least [] s = refl
  least_after_lem least (r ∷ l) s = least_after_lem (suc r) l s

  module _ (starts : List ℕ) where
    next-taken : (i : ℕ) → i < length starts → take (i + 1) starts ≡ take i starts ++ (get_or starts i 0 ∷ [])
    next-taken i h = ap (λ k. take k starts) (add-one i) ∙ take-suc starts i 0 h

    pub wrong-next : (i : ℕ) → i < length starts
        → wrong_start states (take (i + 1) starts)
        ≡ earlier (wrong_start states (take i starts)) (cond (is_right states (least_after 0 (take i starts)) (get_or starts i 0)) none (some i))
    unfolding wrong_start
    wrong-next i h =
        let long : 0 + length (take i starts) ≡ i = omega (arith, length-take-le i starts (omega arith)) in
        ap (wrong_from states 0 0) (next-taken i h)
        ∙ wrong-one-more 0 0 (take i starts) (get_or starts i 0)
        ∙ ap (λ k. earlier (wrong_from states 0 0 (take i starts)) (one_more (least_after 0 (take i starts)) k (get_or starts i 0))) long

    pub least_next : (i : ℕ) → i < length starts → least_after 0 (take (i + 1) starts) ≡ suc (get_or starts i 0)
    least_next i h = ap (least_after 0) (next-taken i h) ∙ least_after_lem 0 (take i starts) (get_or starts i 0)

    pub right-few : states ≤ most_states → wrong_start states starts ≡ none → length starts ≤ most_states
    right-few few e = by (leb (length starts) most_states) refl
      where
        by : (b : Bool) → leb (length starts) most_states ≡ b → length starts ≤ most_states
        by true d = leb-true (length starts) most_states d
        by false d =
            let (k, found, b) = too_many states starts few (omega (arith, leb-false (length starts) most_states d)) in
            let z : ◌≡◌ {A = ℕ} 0 1 = cc in absurd (omega arith)

    -- What is wrong at the beginning is wrong in the whole.
    pub wrong-later : (n k : ℕ) → wrong_start states (take n starts) ≡ some k → wrong_start states starts ≡ some k
    unfolding wrong_start
    wrong-later n k e = ap (wrong_from states 0 0) (sym (take-append-drop n starts)) ∙ wrong_stays 0 0 (take n starts) (drop n starts) k e

    -- The first 257 entries decide, or as many as there are.
    pub wrong-begun : states ≤ most_states → (n : ℕ) → min (length starts) enough_starts ≤ n → wrong_start states (take n starts) ≡ wrong_start states starts
    wrong-begun few n enough = by (leb (length starts) n) refl
      where
        longer : n < length starts → wrong_start states (take n starts) ≡ wrong_start states starts
        longer h =
            let (k, found, b) = too_many states (take n starts) few (omega (arith, length-take-le n starts (omega arith))) in
            found ∙ sym (wrong-later n k found)

        by : (b : Bool) → leb (length starts) n ≡ b → wrong_start states (take n starts) ≡ wrong_start states starts
        by true e = ap (wrong_start states) (take_all n starts (leb-true (length starts) n e))
        by false e = longer (omega (arith, leb-false (length starts) n e))
