-- Partition refinement: each round splits blocks by signature, and after as many rounds as there are states the partition is stable.
use mathlib.Core.Path.{◌≡◌, refl, sym, ap, ◌∙◌}
use mathlib.Core.Logic.{◌⊎◌, inl, inr}
use mathlib.Core.Bool.{Bool, true, false, cond}
use mathlib.Core.List.Memᴰ
use mathlib.Core.List.{List, [], ◌∷◌, map, Memᴰ}
use Prim.Native.Nat.{ℕ, zero, suc, ◌<◌, ◌≤◌}
use native.Mathlib.Decide.{dec_le}
use native.Mathlib.Nat.{zero-add}
use native.Mathlib.Omega.{arith}
use lib.Dec.{eqb}
use lib.ListN.{length, get_or, drop, length-map}
use lib.Seq.{ext_get_or}
use borrow.Author.Tests.{eqb-true, eq-eqb}
use Rattle.lts.specs.inner.Lists.{up_from, keep}
use Rattle.deterministic.specs.inner.Search.{number_of}
use Rattle.deterministic.specs.inner.Blocks.{Table, same_numbers, block_of, signature, refine, refined, blocks}
use Rattle.lts.proofs.Lists.{up_from-of, up_from-to, up_from-length, up_from-at, keep-to}
use Rattle.deterministic.proofs.ListLaws.{get_d_map, map_equal, keep_back, keep-few}
use Rattle.deterministic.proofs.Numbers.{Tests, lists_tests, number-found, number-first}

pub numbers_tests : Tests same_numbers
numbers_tests = lists_tests (record { of = eqb-true; to = eq-eqb })

bit_same : (a b : Bool) → ◌≡◌ {A = ℕ} (cond a 1 0) (cond b 1 0) → a ≡ b
bit_same true true e = refl
bit_same true false e = absurd (omega arith)
bit_same false true e = absurd (omega arith)
bit_same false false e = refl

module _ (t : Table) where
  abbrev n : ℕ
  n = t.size

  abbrev B : List ℕ → ℕ → ℕ
  B = block_of t

  -- A block is named by its lowest state.
  pub record Partition (c : List ℕ) : Type 0 where
    pub long : length c ≡ n
    pub low : (k : ℕ) → k < n → B c k ≤ k
    pub own : (k : ℕ) → k < n → B c (B c k) ≡ B c k

  -- What equal signatures say.
  module _ (c : List ℕ) (j k : ℕ) (e : signature t c j ≡ signature t c k) where
    pub signed-final : t.final j ≡ t.final k
    unfolding signature
    signed-final = bit_same (t.final j) (t.final k) (ap (λ l. get_or l 0 0) e)

    pub signed-block : B c j ≡ B c k
    unfolding signature
    signed-block = ap (λ l. get_or l 1 0) e

    pub signed-next : (l : ℕ) → Memᴰ l t.labels → B c (t.next j l) ≡ B c (t.next k l)
    unfolding signature
    signed-next = map_equal (λ l. B c (t.next j l)) (λ l. B c (t.next k l)) t.labels (ap (drop 2) e)

  -- One round.
  module _ (c : List ℕ) where
    abbrev signatures : List (List ℕ)
    signatures = map (signature t c) (up_from 0 n)

    many : length signatures ≡ n
    many = length-map (up_from 0 n) (signature t c) ∙ up_from-length 0 n

    signature_at : (k : ℕ) → k < n → get_or signatures k [] ≡ signature t c k
    signature_at k h = get_d_map (signature t c) (up_from 0 n) k [] 0 (omega (arith, up_from-length 0 n)) ∙ ap (signature t c) (up_from-at 0 n k 0 h ∙ zero-add k)

    refine-at : (k : ℕ) → k < n → B (refine t c) k ≡ number_of same_numbers signatures (signature t c k)
    unfolding refine
    refine-at k h = get_d_map (number_of same_numbers signatures) signatures k n [] (omega (arith, many)) ∙ ap (number_of same_numbers signatures) (signature_at k h)

    refine-low : (k : ℕ) → k < n → B (refine t c) k ≤ k
    refine-low k h = omega (arith, refine-at k h, ap (number_of same_numbers signatures) (signature_at k h), number-first numbers_tests signatures k [] (omega (arith, many)))

    pub refine-like : (k : ℕ) → k < n → signature t c (B (refine t c) k) ≡ signature t c k
    refine-like k h =
        let b = refine-low k h in
        sym (signature_at (B (refine t c) k) (omega arith)) ∙ (ap (λ i. get_or signatures i []) (refine-at k h)
        ∙ number-found numbers_tests signatures (signature t c k) [] (omega (arith, refine-at k h, many)))

    pub refine-to : (j k : ℕ) → j < n → k < n → signature t c j ≡ signature t c k → B (refine t c) j ≡ B (refine t c) k
    refine-to j k a b e = refine-at j a ∙ (ap (number_of same_numbers signatures) e ∙ sym (refine-at k b))

    pub refine-of : (j k : ℕ) → j < n → k < n → B (refine t c) j ≡ B (refine t c) k → signature t c j ≡ signature t c k
    refine-of j k a b e = sym (refine-like j a) ∙ (ap (signature t c) e ∙ refine-like k b)

    pub refine_partition : Partition (refine t c)
    unfolding refine
    refine_partition = record {
      long = length-map signatures (number_of same_numbers signatures) ∙ many;
      low = refine-low;
      own = λ k h. let b = refine-low k h in refine-to (B (refine t c) k) k (omega arith) h (refine-like k h);
    }

    -- The lowest states of blocks remain so.
    grows : Partition c → (k : ℕ) → k < n → B c k ≡ k → B (refine t c) k ≡ k
    grows p k h e =
        let b = refine-low k h in
        let j = B (refine t c) k in
        let z = signed-block c j k (refine-like k h) in
        omega (arith, p.low j (omega arith))

    -- If there are no more of them, the partition is the same.
    pub steady : Partition c → ((k : ℕ) → k < n → B (refine t c) k ≡ k → B c k ≡ k) → refine t c ≡ c
    steady p f = ext_get_or n (refine t c) c (refine_partition.long ∙ sym p.long) (λ k h.
        let h' : k < n = omega (arith, refine_partition.long) in
        let b = refine-low k h' in
        let j = B (refine t c) k in
        let z = signed-block c j k (refine-like k h') in
        sym (f j (omega arith) (refine_partition.own k h')) ∙ z)

  abbrev pub Stable : List ℕ → Type 0
  Stable c = refine t c ≡ c

  abbrev lowest : List ℕ → ℕ → Bool
  lowest c k = eqb (B c k) k

  -- The count of blocks.
  abbrev block_count : List ℕ → ℕ
  block_count c = length (keep (lowest c) (up_from 0 n))

  split_or_stable : (c : List ℕ) → Partition c → Dec (block_count (refine t c) ≤ block_count c) → Stable c ⊎ (block_count c < block_count (refine t c))
  split_or_stable c p (no x) = inr (omega (arith, x))
  split_or_stable c p (yes x) = inl (steady c p (λ k h e.
      eqb-true (B c k) k (keep_back (lowest c) (lowest (refine t c)) (up_from 0 n)
      (λ y m d. eq-eqb (B (refine t c) y) y (grows c p y (omega (arith, (up_from-of 0 n m).1)) (eqb-true (B c y) y d)))
      x k (up_from-to 0 n k (omega arith) (omega arith)) (eq-eqb (B (refine t c) k) k e))))

  pub one_block : (k : ℕ) → k < n → B (refined t 0) k ≡ 0
  unfolding refined
  one_block k h = get_d_map (λ k. 0) (up_from 0 n) k n 0 (omega (arith, up_from-length 0 n))

  pub refined_partition : (r : ℕ) → Partition (refined t r)
  unfolding refined
  refined_partition zero = record {
    long = length-map (up_from 0 n) (λ k. 0) ∙ up_from-length 0 n;
    low = λ k h. omega (arith, one_block k h);
    own = λ k h. one_block (B (refined t 0) k) (omega (arith, one_block k h)) ∙ sym (one_block k h);
  }
  refined_partition (suc r) = refine_partition (refined t r)

  rounds : 0 < n → (r : ℕ) → Stable (refined t r) ⊎ (r < block_count (refined t r))
  unfolding refined
  rounds s zero = inr (some (keep (lowest (refined t 0)) (up_from 0 n))
      (keep-to (lowest (refined t 0)) (up_from 0 n) (up_from-to 0 n 0 (omega arith) (omega arith)) (eq-eqb (B (refined t 0) 0) 0 (omega (arith, (refined_partition 0).low 0 s)))))
    where
      some : (l : List ℕ) → Memᴰ 0 l → 0 < length l
      some [] m = absurd (Memᴰ.not-nil m)
      some (x ∷ l) m = omega arith
  rounds s (suc r) = case (rounds s r) (split_or_stable (refined t r) (refined_partition r) (dec_le _ _))
    where
      case : Stable (refined t r) ⊎ (r < block_count (refined t r)) → Stable (refined t r) ⊎ (block_count (refined t r) < block_count (refine t (refined t r)))
          → Stable (refine t (refined t r)) ⊎ (suc r < block_count (refine t (refined t r)))
      case (inl a) b = inl (ap (refine t) a)
      case (inr a) (inl b) = inl (ap (refine t) b)
      case (inr a) (inr b) = inr (omega arith)

  pub blocks_partition : Partition (blocks t)
  unfolding blocks
  blocks_partition = refined_partition n

  pub blocks_stable : 0 < n → Stable (blocks t)
  unfolding blocks
  blocks_stable s = case (rounds s n)
    where
      case : Stable (refined t n) ⊎ (n < block_count (refined t n)) → Stable (refined t n)
      case (inl a) = a
      case (inr a) = absurd (omega (arith, keep-few (lowest (refined t n)) (up_from 0 n), up_from-length 0 n))
