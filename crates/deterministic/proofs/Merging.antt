-- States are in one block of a stable partition exactly if they have the same words.
use mathlib.Core.Path.{◌≡◌, sym, ◌∙◌, subst}
use mathlib.Core.Bool.{cond}
use mathlib.Core.List.{List, [], ◌∷◌, Memᴰ}
use Prim.Native.Nat.{ℕ, zero, suc, ◌<◌, ◌≤◌}
use native.Mathlib.Decide.{dec_lt}
use native.Mathlib.Omega.{arith}
use lib.Dec.{eqb, ltb}
use lib.ListN.{get_or-eq_default}
use borrow.Author.Tests.{ltb-true, lt-ltb}
use Rattle.deterministic.specs.Smallest.{SameWords}
use Rattle.deterministic.specs.inner.Search.{System}
use Rattle.deterministic.specs.inner.Blocks.{Table, block_of, signature, refined, merged}
use Rattle.deterministic.proofs.ListLaws.{same_flag, map_same}
use Rattle.deterministic.proofs.Runs.{same-sym}
use Rattle.deterministic.proofs.Found.{Speaks}
use Rattle.deterministic.proofs.Refining.{Partition, signed-final, signed-next, refine-to, refine-of, Stable, one_block, refined_partition}

-- A table as a system.
abbrev pub tabled : Table → System ℕ
tabled t = record { same = eqb; labels = t.labels; start = 0; step = t.next; live = λ k. ltb k t.size }

module _ (t : Table) where
  abbrev n : ℕ
  n = t.size

  abbrev pub Words : ℕ → List ℕ → Type 0
  Words = Speaks (tabled t) t.final

  -- What is no state has a block of its own.
  module _ (c : List ℕ) (p : Partition t c) where
    outside : (k : ℕ) → n ≤ k → block_of t c k ≡ n
    outside k h = get_or-eq_default c n (omega (arith, p.long))

    pub inside : (k : ℕ) → k < n → block_of t c k < n
    inside k h = omega (arith, p.low k h)

    pub back_inside : (k : ℕ) → block_of t c k < n → k < n
    back_inside k h = case (dec_lt k n)
      where
        case : Dec (k < n) → k < n
        case (yes x) = x
        case (no x) = let e = outside k (omega (arith, x)) in absurd (omega arith)

    module _ (s : Stable t c) where
      agree : (j k : ℕ) → j < n → k < n → block_of t c j ≡ block_of t c k → signature t c j ≡ signature t c k
      agree j k a b e = refine-of t c j k a b (subst (λ (x : List ℕ). block_of t x j ≡ block_of t x k) (sym s) e)

      -- One block: the same words.
      pub block_words : (j k : ℕ) (w : List ℕ) → j < n → k < n → block_of t c j ≡ block_of t c k → Words j w → Words k w
      block_words j k [] a b e h = sym (signed-final t c j k (agree j k a b e)) ∙ h
      block_words j k (l ∷ w) a b e (m, x, h) =
          let z = signed-next t c j k (agree j k a b e) l m in
          let x' = ltb-true (t.next j l) n x in
          let y = back_inside (t.next k l) (omega (arith, inside (t.next j l) x')) in
          (m, lt-ltb (t.next k l) n y, block_words (t.next j l) (t.next k l) w x' y z h)

      pub merged-of : (k : ℕ) (w : List ℕ) → k < n → Speaks (merged t c) t.final k w → Words k w
      merged-of k [] b h = h
      merged-of k (l ∷ w) b (m, x, h) =
          let x' = ltb-true (block_of t c (t.next k l)) n x in
          let y = back_inside (t.next k l) x' in
          (m, lt-ltb (t.next k l) n y, block_words (block_of t c (t.next k l)) (t.next k l) w x' y (p.own (t.next k l) y) (merged-of (block_of t c (t.next k l)) w x' h))

      pub merged-to : (k : ℕ) (w : List ℕ) → k < n → Words k w → Speaks (merged t c) t.final k w
      merged-to k [] b h = h
      merged-to k (l ∷ w) b (m, x, h) =
          let x' = ltb-true (t.next k l) n x in
          let y = inside (t.next k l) x' in
          (m, lt-ltb (block_of t c (t.next k l)) n y, merged-to (block_of t c (t.next k l)) w y (block_words (t.next k l) (block_of t c (t.next k l)) w x' y (sym (p.own (t.next k l) x')) h))

  -- The same words: one block in every round, if a final state can be reached after every step.
  abbrev pub StepsFinish : Type 0
  StepsFinish = (k l : ℕ) → k < n → Memᴰ l t.labels → t.next k l < n → (w : List ℕ) × Words (t.next k l) w

  module _ (f : StepsFinish) where
    module _ (j k : ℕ) (a : j < n) (b : k < n) (s : SameWords (Words j) (Words k)) (l : ℕ) (m : Memᴰ l t.labels) where
      follows : t.next j l < n → t.next k l < n
      follows x = let (w, h) = f j l a m x in ltb-true (t.next k l) n ((s (l ∷ w)).0 (m, lt-ltb (t.next j l) n x, h)).1

      next-words : t.next j l < n → t.next k l < n → (w : List ℕ) → Words (t.next j l) w → Words (t.next k l) w
      next-words x y w h = ((s (l ∷ w)).0 (m, lt-ltb (t.next j l) n x, h)).2

    pub words-block : (r j k : ℕ) → j < n → k < n → SameWords (Words j) (Words k) → block_of t (refined t r) j ≡ block_of t (refined t r) k
    unfolding refined signature
    words-block zero j k a b s = one_block t j a ∙ sym (one_block t k b)
    words-block (suc r) j k a b s = refine-to t c j k a b (signs (words-block r))
      where
        c : List ℕ
        c = refined t r

        marks : t.final j ≡ t.final k
        marks = same_flag (t.final j) (t.final k) (s [])

        signs : ((j k : ℕ) → j < n → k < n → SameWords (Words j) (Words k) → block_of t c j ≡ block_of t c k) → signature t c j ≡ signature t c k
        signs h =
            let e = h j k a b s in
            let d = map_same (λ l. block_of t c (t.next j l)) (λ l. block_of t c (t.next k l)) t.labels (λ l m. case l m (dec_lt (t.next j l) n) (dec_lt (t.next k l) n)) in
            λ i. cond (marks i) 1 0 ∷ e i ∷ d i
          where
            case : (l : ℕ) → Memᴰ l t.labels → Dec (t.next j l < n) → Dec (t.next k l < n) → block_of t c (t.next j l) ≡ block_of t c (t.next k l)
            case l m (yes x) (yes y) = h (t.next j l) (t.next k l) x y (λ w. (next-words j k a b s l m x y w, next-words k j b a (same-sym s) l m y x w))
            case l m (yes x) (no y) = absurd (y (follows j k a b s l m x))
            case l m (no x) (yes y) = absurd (x (follows k j b a (same-sym s) l m y))
            case l m (no x) (no y) = outside c (refined_partition t r) (t.next j l) (omega (arith, x)) ∙ sym (outside c (refined_partition t r) (t.next k l) (omega (arith, y)))
