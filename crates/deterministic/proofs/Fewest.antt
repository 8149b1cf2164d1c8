-- No deterministic automaton of the same words has fewer states than the smallest one.
use mathlib.Core.Path.{◌≡◌, sym, ap, subst}
use mathlib.Core.Logic.{◌⊎◌, inl, inr}
use mathlib.Core.List.{List, ◌++◌, map, Memᴰ}
use Prim.Native.Nat.{ℕ, ◌<◌, ◌≤◌}
use native.Mathlib.Decide.{dec_lt}
use native.Mathlib.Omega.{arith}
use lib.ListN.{length-map}
use Rattle.lts.specs.inner.Lists.{up_from}
use Rattle.deterministic.specs.inner.Lists.{Distinct}
use Rattle.deterministic.specs.Automata.{Automaton, count, Reads, Accepts, WellFormed, Deterministic, bare}
use Rattle.deterministic.specs.Smallest.{SameWords, CanFinish, IsSmallest}
use Rattle.lts.proofs.Lists.{up_from-of, up_from-to, up_from-rising, up_from-length, map_of, map-rising}
use Rattle.deterministic.proofs.ListLaws.{fits}
use Rattle.deterministic.proofs.Runs.{same-sym, same_trans, run_on, split_run, run_range, after_run, sorted_deterministic}

-- Numbers below n that go apart to numbers below m.
pub pigeonhole : (n m : ℕ) (f : ℕ → ℕ) → ((i : ℕ) → i < n → f i < m) → ((i j : ℕ) → i < n → j < n → f i ≡ f j → i ≡ j) → n ≤ m
pigeonhole n m f b a =
    let r : Distinct (map f (up_from 0 n)) = map-rising f ◌<◌ (λ (x y : ℕ). x ≡ y → ⊥) (up_from 0 n) apart (up_from-rising 0 n) in
    let x = fits (map f (up_from 0 n)) (up_from 0 m) r (λ x k. within x (map_of f (up_from 0 n) k)) in
    omega (arith, length-map (up_from 0 n) f, up_from-length 0 n, up_from-length 0 m)
  where
    below : (i : ℕ) → Memᴰ i (up_from 0 n) → i < n
    below i k = omega (arith, (up_from-of 0 n k).1)

    apart : (x y : ℕ) → Memᴰ x (up_from 0 n) → Memᴰ y (up_from 0 n) → x < y → f x ≡ f y → ⊥
    apart x y k l c e = let z : x ≡ y = a x y (below x k) (below y l) e in omega arith

    within : (x : ℕ) → (i : ℕ) × Memᴰ i (up_from 0 n) × (x ≡ f i) → Memᴰ x (up_from 0 m)
    within x (i, k, e) = up_from-to 0 m x (omega arith) (omega (arith, b i (below i k), e))

module _ {P : List ℕ → Type 0} {d e : Automaton} (h : IsSmallest P d) (f : CanFinish d) (k : WellFormed e) (det : Deterministic e) (same : SameWords P (Accepts e)) where
  abbrev Image : ℕ → Type 0
  Image i = (j : ℕ) × (j < count e) × SameWords (Reads d i) (Reads e j)

  -- The word that leads to a state of d leads to a state of e with the same residual.
  image : (i : ℕ) → i < count d → Image i
  image i b =
      let (w, r) = h.reached i b in
      let (v, s) = f i b in
      let words = same_trans (same-sym h.exact) same in
      let (j, t, x) = split_run e 0 w v ((words (w ++ v)).0 (run_on d 0 i w v r s)) in (
        j,
        run_range e k 0 j w k.some_state t,
        λ u. (
          λ y. after_run e det 0 j w u t ((words (w ++ u)).0 (run_on d 0 i w u r y)),
          λ y. after_run d (sorted_deterministic d h.sorted) 0 i w u r ((words (w ++ u)).1 (run_on e 0 j w u t y)),
        ),
      )

  abbrev image_of : (i : ℕ) → Dec (i < count d) → ℕ
  image_of i (yes b) = (image i b).0
  image_of i (no b) = 0

  within : (i : ℕ) → i < count d → (t : Dec (i < count d)) → image_of i t < count e
  within i b (yes c) = (image i c).1
  within i b (no c) = absurd (c b)

  injective : (i j : ℕ) → i < count d → j < count d → (t : Dec (i < count d)) (u : Dec (j < count d)) → image_of i t ≡ image_of j u → i ≡ j
  injective i j b c (yes x) (yes y) z = h.apart i j b c (same_trans (image i x).2 (subst (λ (n : ℕ). SameWords (Reads e n) (Reads d j)) (sym z) (same-sym (image j y).2)))
  injective i j b c (yes x) (no y) z = absurd (y c)
  injective i j b c (no x) u z = absurd (x b)

  fewest_finishing : count d ≤ count e
  fewest_finishing = pigeonhole (count d) (count e) (λ i. image_of i (dec_lt i (count d))) (λ i b. within i b (dec_lt i (count d)))
      (λ i j b c z. injective i j b c (dec_lt i (count d)) (dec_lt j (count d)) z)

pub fewest : {P : List ℕ → Type 0} {d e : Automaton} → IsSmallest P d → WellFormed e → Deterministic e → SameWords P (Accepts e) → count d ≤ count e
fewest {P} {d} {e} h k det same = case h.no_trap
  where
    case : CanFinish d ⊎ (d ≡ bare) → count d ≤ count e
    case (inl f) = fewest_finishing h f k det same
    case (inr z) = omega (arith, ap count z, k.some_state)
