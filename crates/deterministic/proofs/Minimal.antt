-- The automaton of a table's blocks: numbered breadth first, with the words of the table, and no two states with the same words.
use mathlib.Core.Path.{◌≡◌, sym, ap, ◌∙◌, subst}
use mathlib.Core.List.{List, ◌∷◌, ◌++◌, Memᴰ}
use Prim.Native.Nat.{ℕ, ◌*◌, ◌<◌, ◌≤◌}
use native.Mathlib.Omega.{arith}
use lib.Dec.{eqb}
use lib.ListN.{length}
use borrow.Author.Tests.{eqb-true, eq-eqb, ltb-true}
use Rattle.lts.specs.inner.Lists.{up_from}
use Rattle.lts.specs.Lists.{Rising}
use Rattle.deterministic.specs.inner.Lists.{Distinct}
use Rattle.automaton.specs.Listing.{Edge}
use Rattle.deterministic.specs.Automata.{Automaton, count, IsEdge, Leads, Reads, Accepts, WellFormed}
use Rattle.deterministic.specs.Smallest.{Before, SameWords}
use Rattle.deterministic.specs.inner.Search.{System, number_of, place_at, found, moves_upto, automaton_of}
use Rattle.deterministic.specs.inner.Blocks.{Table, block_of, blocks, merged}
use Rattle.lts.proofs.Lists.{get_d_mem, up_from-to, up_from-length}
use Rattle.deterministic.proofs.ListLaws.{fits}
use Rattle.deterministic.proofs.Numbers.{Tests}
use Rattle.deterministic.proofs.Runs.{same-sym, same_trans}
use Rattle.deterministic.proofs.Visits.{all-distinct}
use Rattle.deterministic.specs.inner.Explored.{Goes}
use Rattle.deterministic.proofs.Search.{Complete, passes_on, found_expanded, found_complete}
use Rattle.deterministic.proofs.Found.{rows-first, rows-numbered, count_is, edge_of_lem, found-few-edges, residual, found_well_formed, found-reached, found-sorted, found_in_turn}
use Rattle.deterministic.proofs.Refining.{Partition, blocks_partition, blocks_stable}
use Rattle.deterministic.proofs.Merging.{Words, StepsFinish, inside, back_inside, merged-of, merged-to, words-block}

module _ (t : Table) (some : 0 < t.size) where
  abbrev n : ℕ
  n = t.size

  abbrev c : List ℕ
  c = blocks t

  abbrev M : System ℕ
  M = merged t c

  abbrev rows : List ℕ
  rows = found M n

  abbrev B : ℕ → ℕ
  B = block_of t c

  abbrev tests : Tests eqb
  tests = record { of = eqb-true; to = eq-eqb }

  p : Partition t c
  p = blocks_partition t

  -- Rows are the lowest states of blocks.
  abbrev Good : ℕ → Type 0
  Good k = (k < n) × (B k ≡ k)

  good_block : (k : ℕ) → k < n → Good (B k)
  good_block k h = (inside t c p k h, p.own k h)

  good : (k : ℕ) (w : List ℕ) → Goes M (B 0) w k → Good k
  good k w r = passes_on M Good (λ q l g m x. good_block (t.next q l) (back_inside t c p (t.next q l) (ltb-true (B (t.next q l)) n x))) (B 0) k w (good_block 0 some) r

  few_rows : length rows ≤ n
  few_rows =
      let (j, x) = found_expanded M tests n in
      let apart : Distinct rows = subst (λ (l : List ℕ). Distinct l) (sym x.built) (all-distinct M tests (B 0) (moves_upto M rows j)) in
      let few = fits rows (up_from 0 n) apart (λ k m. let (w, r) = x.reached k m in up_from-to 0 n k (omega arith) (omega (arith, (good k w r).0))) in
      omega (arith, up_from-length 0 n)

  complete : Complete M rows
  complete = found_complete M tests n few_rows

  same_block : StepsFinish t → (j k : ℕ) → j < n → k < n → SameWords (Words t j) (Words t k) → B j ≡ B k
  unfolding blocks
  same_block f j k a b s = words-block t f n j k a b s

  abbrev d : Automaton
  d = automaton_of M t.final rows

  abbrev at : ℕ → ℕ
  at = place_at M rows

  row_good : (i : ℕ) → i < length rows → Good (at i)
  row_good i h = let (w, r) = complete.reached (at i) (get_d_mem rows i (B 0) h) in good (at i) w r

  -- Each state has the words of a state of the table, the first those of the first.
  words-at : (i : ℕ) → i < length rows → SameWords (Reads d i) (Words t (at i))
  words-at i h =
      let g = (row_good i h).0 in
      same_trans (residual M tests rows complete t.final i h) (λ w. (merged-of t c p (blocks_stable t some) (at i) w g, merged-to t c p (blocks_stable t some) (at i) w g))

  sized : count d ≡ length rows
  sized = count_is M tests rows complete t.final

  pub record Minimal (e : Automaton) : Type 0 where
    pub well_formed : WellFormed e
    pub few : count e ≤ n
    pub few_edges : length e.edges ≤ count e * length t.labels
    pub sorted : Rising ◌<◌ t.labels → Rising Before e.edges
    pub reached : (i : ℕ) → i < count e → (w : List ℕ) × Leads e 0 w i
    pub in_turn : (before after : List Edge) (a : Edge) → e.edges ≡ before ++ (a ∷ after) → (i : ℕ) → 1 ≤ i → i < a.target → (b : Edge) × Memᴰ b before × (b.target ≡ i)
    pub words : SameWords (Words t 0) (Accepts e)
    pub state-of : (i : ℕ) → i < count e → (k : ℕ) × (k < n) × SameWords (Reads e i) (Words t k)
    pub steps : (a : Edge) → IsEdge e a → (k : ℕ) × (l : ℕ) × (k < n) × Memᴰ l t.labels × (t.next k l < n)
    pub apart : StepsFinish t → (i j : ℕ) → i < count e → j < count e → SameWords (Reads e i) (Reads e j) → i ≡ j

  pub minimal : Minimal d
  minimal = record {
    well_formed = found_well_formed M tests rows complete t.final;
    few = omega (arith, sized, few_rows);
    few_edges = found-few-edges M tests rows complete t.final;
    sorted = found-sorted M tests rows complete t.final;
    reached = found-reached M tests rows complete t.final;
    in_turn = found_in_turn M tests rows complete t.final;
    words = first;
    state-of = λ i h. let h' : i < length rows = omega (arith, sized) in (at i, (row_good i h').0, words-at i h');
    steps = steps;
    apart = apart;
  }
    where
      steps : (a : Edge) → IsEdge d a → (k : ℕ) × (l : ℕ) × (k < n) × Memᴰ l t.labels × (t.next k l < n)
      steps a m =
          let s = edge_of_lem M tests rows complete t.final a m in
          let k = at a.row in
          let x = ltb-true (B (t.next k a.label)) n s.lives in
          (k, a.label, (row_good a.row s.from_row).0, s.label_in, back_inside t c p (t.next k a.label) x)

      first : SameWords (Words t 0) (Accepts d)
      first =
          let (x, y) = rows-first M tests rows complete in
          let z : at 0 ≡ 0 = y ∙ (omega (arith, p.low 0 some)) in
          subst (λ (k : ℕ). SameWords (Words t k) (Accepts d)) z (same-sym (words-at 0 x))

      apart : StepsFinish t → (i j : ℕ) → i < count d → j < count d → SameWords (Reads d i) (Reads d j) → i ≡ j
      apart f i j a b s =
          let a' : i < length rows = omega (arith, sized) in
          let b' : j < length rows = omega (arith, sized) in
          let (x, u) = row_good i a' in
          let (y, v) = row_good j b' in
          let e : B (at i) ≡ B (at j) = same_block f (at i) (at j) x y (same_trans (same-sym (words-at i a')) (same_trans s (words-at j b'))) in
          sym (rows-numbered M tests rows complete i a') ∙ (ap (number_of eqb rows) (sym u ∙ (e ∙ v)) ∙ rows-numbered M tests rows complete j b')
