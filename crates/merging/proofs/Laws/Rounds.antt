-- Rounds of refinement over arrays: the first state like another, one block more, the end of a round, and the rounds together.
use mathlib.Core.Path.{◌≡◌, refl, sym, ap, ◌∙◌}
use mathlib.Core.Logic.{◌⊎◌, inl, inr}
use mathlib.Core.Bool.{Bool, true, false, ◌&&◌}
use mathlib.Core.List.{List}
use Prim.Native.Nat.{ℕ, zero, suc, ◌+◌, ◌-◌, ◌<◌, ◌≤◌}
use native.Mathlib.Decide.{dec_lt}
use native.Mathlib.Nat.{zero-add, suc-add, eq-or-lt_of_le}
use native.Mathlib.Numerals.{add-one}
use native.Mathlib.Omega.{arith}
use lib.Dec.{eqb}
use lib.ListN.{length, take, get_or, set, replicate, length-take, length-set, length-replicate, get_or-replicate}
use lib.Seq.{length-take-le, take-set-le, take-take, get_or-take, get_or-set_same, get_or-set_other, ext_get_or}
use borrow.Author.Tests.{eqb-true, eq-eqb}
use Rattle.lts.specs.inner.Answers.{Decides}
use Rattle.deterministic.specs.Sizes.{most_sets}
use Rattle.deterministic.specs.inner.Blocks.{Table, block_of, signature, refine, refined, blocks}
use Rattle.deterministic.specs.inner.Arrays.{array_table}
use Rattle.merging.specs.inner.Rounds.{Named, Ended, RoundTo, SameTo, Rounded, Merged}
use Rattle.packed_steps.specs.inner.Packed.{Packed, Sized}
use Rattle.merging.specs.inner.Alike.{Alike, IsBlock, First}
use Rattle.lts.proofs.Booleans.{and-true-of, and-true-to}
use Rattle.lts.proofs.Laws.Decides.{decided_yes, decided_by, decided_test}
use Rattle.deterministic.proofs.Refining.{signed-block, signed-final, refine-like, refine-to, refine_partition, one_block, refined_partition, blocks_partition, blocks_stable}
use Rattle.deterministic.proofs.Loops.{stops_early}
use Rattle.merging.proofs.Laws.Signatures.{block_in, signature-to, signature-of}
use Rattle.merging.proofs.Laws.Looked.{targets-to, targets_of_lem}

-- One block more.
module _ (P : ℕ → ℕ) (new : List ℕ) (k x : ℕ) (b : k < length new) where
  one_more : ((i : ℕ) → i < k → get_or new i 0 ≡ P i) → x ≡ P k → (i : ℕ) → i < k + 1 → get_or (set new k x) i 0 ≡ P i
  one_more f e i h = case (eq-or-lt_of_le (omega arith))
    where
      case : (i ≡ k) ⊎ (i < k) → get_or (set new k x) i 0 ≡ P i
      case (inl z) = ap (λ j. get_or (set new k x) j 0) z ∙ (get_or-set_same new k x 0 b ∙ (e ∙ ap P (sym z)))
      case (inr z) = get_or-set_other new k i x 0 (λ y. absurd (omega arith)) ∙ f i z

  one_less : ((i : ℕ) → i < k + 1 → get_or (set new k x) i 0 ≡ P i) → ((i : ℕ) → i < k → get_or new i 0 ≡ P i) × (x ≡ P k)
  one_less f = (λ i h. sym (get_or-set_other new k i x 0 (λ y. absurd (omega arith))) ∙ f i (omega arith), sym (get_or-set_same new k x 0 b) ∙ f k (omega arith))

  still_same : {s : Bool} {r : Bool} → r ≡ (s && eqb x (P k)) → Decides ((i : ℕ) → i < k → get_or new i 0 ≡ P i) s
      → Decides ((i : ℕ) → i < k + 1 → get_or (set new k x) i 0 ≡ P i) r
  still_same {s} e d = decided_test _ _ e
      (λ y. let (u, v) = and-true-of s (eqb x (P k)) y in one_more (d.yes u) (eqb-true x (P k) v))
      (λ f. let (g, v) = one_less f in and-true-to s (eqb x (P k)) (is-yes s d g) (eq-eqb x (P k) v))
    where
      is-yes : (s : Bool) → Decides ((i : ℕ) → i < k → get_or new i 0 ≡ P i) s → ((i : ℕ) → i < k → get_or new i 0 ≡ P i) → s ≡ true
      is-yes true d g = refl
      is-yes false d g = absurd (d.no refl g)

-- Blocks copied to another array.
pub copied_more : (names blocks : List ℕ) (k : ℕ) → k < length blocks → ((i : ℕ) → i < k → get_or blocks i 0 ≡ get_or names i 0) → (i : ℕ) → i < k + 1
    → get_or (set blocks k (get_or names k 0)) i 0 ≡ get_or names i 0
copied_more names blocks k b f = one_more (λ i. get_or names i 0) blocks k (get_or names k 0) b f refl

pub copied_all : (names blocks : List ℕ) → length names ≡ suc most_sets → length blocks ≡ most_sets → ((i : ℕ) → i < most_sets → get_or blocks i 0 ≡ get_or names i 0) → blocks ≡ take most_sets names
copied_all names blocks a e f =
    let d = length-take-le most_sets names (omega arith) in
    ext_get_or 0 blocks (take most_sets names) (e ∙ sym d) (λ i h. f i (omega arith) ∙ sym (get_or-take most_sets names i 0 (omega arith)))

module _ (t : Table) where
  abbrev n : ℕ
  n = t.size

  abbrev B : List ℕ → ℕ → ℕ
  B = block_of t

  -- The first state like k.
  module _ (c : List ℕ) (k : ℕ) (h : k < n) where
    abbrev first : ℕ
    first = B (refine t c) k

    pub first-low : first ≤ k
    first-low = (refine_partition t c).low k h

    -- It is the lowest state of its new block.
    pub first-here : (j : ℕ) → j < n → j ≡ B (refine t c) j → signature t c j ≡ signature t c k → j ≡ first
    first-here j b e s = e ∙ refine-to t c j k b h s

    pub first_lowest : (j : ℕ) → j ≡ first → j ≡ B (refine t c) j
    first_lowest j e = e ∙ (sym ((refine_partition t c).own k h) ∙ ap (B (refine t c)) (sym e))

    pub first-like : (j : ℕ) → j ≡ first → signature t c j ≡ signature t c k
    first-like j e = ap (signature t c) e ∙ refine-like t c k h

  -- It has the same old block: the search may begin there.
  pub first-from : (old : List ℕ) (k : ℕ) → Named n old → k < n → get_or old k 0 ≤ B (refine t (take n old)) k
  first-from old k p h =
      let c = take n old in
      let first = B (refine t c) k in
      let b = first-low c k h in
      let e = signed-block t c first k (refine-like t c k h) in
      omega (arith, block_in old n k p.long h, block_in old n first p.long (omega arith), p.low first (omega arith))

  -- A round whose first k blocks are made, and whether they are as they were.
  pub record Going (old new : List ℕ) (k : ℕ) (steady : Bool) : Type 0 where
    pub within : k ≤ n
    pub long : n ≤ length new
    pub made : RoundTo t (take n old) new k
    pub same : Decides (SameTo old new k) steady

  pub going_start : (old new : List ℕ) → n ≤ length new → Going old new 0 true
  going_start old new b = record { within = omega arith; long = b; made = λ i h. absurd (omega arith); same = decided_yes (λ i h. absurd (omega arith)) }

  pub going_more : (old new : List ℕ) (k x y : ℕ) (s r : Bool) → Going old new k s → k < n → x ≡ B (refine t (take n old)) k → y ≡ get_or old k 0 → r ≡ (s && eqb x y)
      → Going old (set new k x) (k + 1) r
  going_more old new k x y s r g h e d f =
      let b : k < length new = omega (arith, g.long) in
      record {
        within = omega arith;
        long = omega (arith, length-set new k x, g.long);
        made = one_more (B (refine t (take n old))) new k x b g.made e;
        same = still_same (λ i. get_or old i 0) new k x b (f ∙ ap (λ z. s && eqb x z) d) g.same;
      }

  pub going_done : (old new : List ℕ) (k : ℕ) (s : Bool) → n ≤ length old → Going old new k s → n ≤ k → Rounded t (take n old) (take n new) s
  going_done old new k s a g h = record { made = done; same = decided_by g.same steady changed }
    where
      c : List ℕ
      c = take n old

      made : (i : ℕ) → i < n → get_or new i 0 ≡ B (refine t c) i
      made i b = g.made i (omega arith)

      done : take n new ≡ refine t c
      done =
          let e = length-take-le n new g.long in
          ext_get_or n (take n new) (refine t c) (e ∙ sym (refine_partition t c).long) (λ i b. sym (block_in new n i g.long (omega arith)) ∙ made i (omega arith))

      steady : SameTo old new k → refine t c ≡ c
      steady f =
          let e = length-take-le n old a in
          ext_get_or n (refine t c) c ((refine_partition t c).long ∙ sym e) (λ i b.
          let b' : i < n = omega (arith, (refine_partition t c).long) in
          sym (made i b') ∙ (f i (omega arith) ∙ block_in old n i a b'))

      changed : refine t c ≡ c → SameTo old new k
      changed e i b = let b' : i < n = omega (arith, g.within) in made i b' ∙ (ap (λ l. B l i) e ∙ sym (block_in old n i a b'))

-- Over packed columns.
module _ (next : List ℕ) (marks : List Bool) (n columns : ℕ) (b : List ℕ) (many : ℕ) (s : Sized next n columns) (p : Packed next n columns b many) (old : List ℕ) (e : Ended n old) where
  abbrev table : Table
  table = array_table next marks n columns

  abbrev c : List ℕ
  c = take n old

  in_old : n ≤ length old
  in_old = omega (arith, e.whole, s.few)

  module _ (j k : ℕ) (a : j < n) (d : k < n) where
    alike_to : Alike b marks old many j k → signature table c j ≡ signature table c k
    alike_to q =
        signature-to columns s.some_column s.few_columns next marks n c j k q.mark
        (sym (block_in old n j in_old a) ∙ (q.block ∙ block_in old n k in_old d)) (targets-to next n columns b many s p old e j k a d q.targets)

    alike_of : signature table c j ≡ signature table c k → Alike b marks old many j k
    alike_of f = record {
      block = block_in old n j in_old a ∙ (signed-block table c j k f ∙ sym (block_in old n k in_old d));
      mark = signed-final table c j k f;
      targets = targets_of_lem next n columns b many s p old e j k a d (signature-of columns s.some_column s.few_columns next marks n c j k f);
    }

  -- The first block like a state is its new block.
  pub first-is : (new : List ℕ) (k r : ℕ) → Named n old → k < n → RoundTo table c new k → First (IsBlock b marks old new many k) (get_or old k 0) k r → r ≡ block_of table (refine table c) k
  first-is new k r named h made f = case (dec_lt r g) (dec_lt g r)
    where
      g : ℕ
      g = block_of table (refine table c) k

      low : g ≤ k
      low = first-low table c k h

      from : get_or old k 0 ≤ g
      from = first-from table old k named h

      -- An earlier one would be the new block.
      earlier : r < g → ⊥
      earlier l =
          let b' : r < k = omega (arith, low) in
          let q = f.is b' in
          let own = sym q.own ∙ made r b' in
          let same = first-here table c k h r (omega arith) own (alike_to r k (omega arith) h q.like) in
          absurd (omega (arith, same))

      -- The new block is passed by no search.
      later : g < r → ⊥
      later l =
          let b' : g < k = omega (arith, f.within) in
          let own = made g b' ∙ sym (first_lowest table c k h g refl) in
          f.none_before g from l (record { own = own; like = alike_of g k (omega arith) h (first-like table c k h g refl) })

      case : Dec (r < g) → Dec (g < r) → r ≡ g
      case (yes l) d = absurd (earlier l)
      case (no l) (yes d) = absurd (later d)
      case (no l) (no d) = omega (arith, l, d)

-- The block of what is no state stays.
pub ended-stays : (n : ℕ) (new : List ℕ) (k x : ℕ) → n ≤ most_sets → k < n → Ended n new → Ended n (set new k x)
ended-stays n new k x b h e = record {
  whole = length-set new k x ∙ e.whole;
  last = get_or-set_other new k most_sets x 0 (λ z. absurd (omega arith)) ∙ e.last;
}

pub ended-start : (n : ℕ) → Ended n (set (replicate (suc most_sets) 0) most_sets n)
ended-start n =
    let zeros : List ℕ = replicate (suc most_sets) 0 in
    let e = length-replicate {A = ℕ} (suc most_sets) 0 in
    record { whole = length-set zeros most_sets n ∙ e; last = get_or-set_same zeros most_sets n 0 (omega (arith, e)) }

-- The rounds together.
module _ (t : Table) where
  abbrev m : ℕ
  m = t.size

  pub refined-named : (l : List ℕ) (r : ℕ) → take m l ≡ refined t r → Named m l
  refined-named l r e =
      let p = refined_partition t r in
      let long : m ≤ length l = omega (arith, ap length e, p.long, length-take m l) in
      record { long = long; low = λ k h. omega (arith, block_in l m k long h, ap (λ (x : List ℕ). block_of t x k) e, p.low k h) }

  refined-none : (s : ℕ) → m ≤ s → take m (replicate s 0) ≡ refined t 0
  refined-none s b =
      let zeros : List ℕ = replicate s 0 in
      let e = length-take-le {A = ℕ} m zeros (omega (arith, length-replicate {A = ℕ} s 0)) in
      ext_get_or m (take m zeros) (refined t 0) (e ∙ sym (refined_partition t 0).long) (λ i h.
      get_or-take m zeros i m (omega arith) ∙ (get_or-replicate s i 0 m (omega arith) ∙ sym (one_block t i (omega arith))))

  pub refined-start : (s i x : ℕ) → m ≤ s → m ≤ i → take m (set (replicate s 0) i x) ≡ refined t 0
  refined-start s i x b h = take-set-le m (replicate s 0) i x h ∙ refined-none s b

  -- After as many rounds as there are states nothing changes.
  refined_late : (r : ℕ) → m ≤ r → refined t r ≡ blocks t
  unfolding refined blocks
  refined_late r b = let e : r ≡ r - m + m = omega arith in ap (refined t) e ∙ by (dec_lt 0 m) (r - m)
    where
      stable : 0 < m → (k : ℕ) → refined t (k + m) ≡ blocks t
      stable s zero = ap (refined t) (zero-add m)
      stable s (suc k) = ap (refined t) (suc-add k m) ∙ (ap (refine t) (stable s k) ∙ blocks_stable t s)

      by : Dec (0 < m) → (k : ℕ) → refined t (k + m) ≡ blocks t
      by (yes s) k = stable s k
      by (no s) k = ext_get_or 0 (refined t (k + m)) (blocks t) ((refined_partition t (k + m)).long ∙ sym (blocks_partition t).long)
          (λ i h. absurd (omega (arith, s, (refined_partition t (k + m)).long)))

  -- Blocks that a round leaves as they are, or that are late.
  pub merged_early : (l : List ℕ) (r : ℕ) → take m l ≡ refined t r → refine t (take m l) ≡ take m l → r ≤ m → Merged t l
  merged_early l r e s b =
      let stable = ap (refine t) (sym e) ∙ (s ∙ e) in
      record { are = e ∙ sym (stops_early t r stable b); low = (refined-named l r e).low }

  pub merged_late : (l : List ℕ) (r : ℕ) → take m l ≡ refined t r → m ≤ r → Merged t l
  merged_late l r e b = record { are = e ∙ refined_late r b; low = (refined-named l r e).low }

  -- One round more.
  pub refined-more : (l k : List ℕ) (r : ℕ) → take m l ≡ refined t r → take m k ≡ refine t (take m l) → take m k ≡ refined t (r + 1)
  unfolding refined
  refined-more l k r e d = d ∙ (ap (refine t) e ∙ ap (refined t) (sym (add-one r)))

-- The blocks of the states alone.
pub states-merged : (t : Table) (names l : List ℕ) → t.size ≤ most_sets → length names ≡ suc most_sets → l ≡ take most_sets names → Merged t names → Merged t l
states-merged t names l b a e m =
    let n = t.size in
    record {
      are = ap (take n) e ∙ (take-take n most_sets names b ∙ m.are);
      low = λ k h. omega (arith, ap (λ (x : List ℕ). get_or x k 0) e, get_or-take most_sets names k 0 (omega arith), m.low k h);
    }
