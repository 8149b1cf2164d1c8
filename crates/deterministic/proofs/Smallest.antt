-- The automaton of the blocks of a table of sets is the smallest deterministic automaton of a build's words.
use mathlib.Core.Path.{◌≡◌, refl, sym, ap, subst}
use mathlib.Core.Logic.{◌⊎◌, inl, inr}
use mathlib.Core.Bool.{Bool, true, false}
use mathlib.Core.List.Memᴰ
use mathlib.Core.List.{List, [], ◌∷◌, Memᴰ}
use Prim.Native.Nat.{ℕ, ◌*◌, ◌<◌, ◌≤◌}
use native.Mathlib.Omega.{arith}
use lib.ListN.{length, get_or}
use Rattle.lts.specs.Lists.{Rising}
use Rattle.lts.proofs.Lists.{get_d_mem}
use Rattle.automaton.specs.Listing.{Edge}
use Rattle.deterministic.specs.Automata.{edge, Automaton, count, IsEdge, Leads, Accepts, bare}
use Rattle.deterministic.specs.Smallest.{SameWords, CanFinish, IsSmallest}
use Rattle.deterministic.specs.inner.Search.{System, place_at}
use Rattle.deterministic.specs.inner.Blocks.{Table, blocks, numbered}
use Rattle.deterministic.specs.inner.Explored.{Places, Tabulates}
use Rattle.deterministic.specs.inner.Subsets.{IsBuild}
use Rattle.deterministic.proofs.Runs.{same-sym, same_trans, bare-reads-none}
use Rattle.deterministic.proofs.Search.{passes_on}
use Rattle.deterministic.proofs.Merging.{Words, StepsFinish}
use Rattle.deterministic.proofs.Minimal.{Minimal, minimal}
use Rattle.deterministic.proofs.Tabled.{row_of_lem, next-is, tabled_words}
use Rattle.deterministic.proofs.SetSystem.{IsSets, SetReads, start-words, says-words}

module _ {P : Type 0} (A : Automaton) (S : System P) (final : P → Bool) (In : P → ℕ → Type 0) (Good : P → Type 0) (h : IsSets A S final In Good)
    (b : IsBuild S.labels A) (rows : List P) (c : Places S rows) (t : Table) (g : Tabulates S final rows t) where
  abbrev place : ℕ → P
  place = place_at S rows

  good : (k : ℕ) → k < t.size → Good (place k)
  good k x =
      let (w, r) = c.reached (place k) (get_d_mem rows k S.start (row_of_lem S final rows t g k x)) in
      passes_on S Good (λ p l y m z. h.good_step p l y) S.start (place k) w h.good_start r

  -- A set in the table has the words of the states in it.
  set_words : (k : ℕ) → k < t.size → SameWords (Words t k) (SetReads A S final In Good h (place k))
  set_words k x = same_trans (tabled_words S final rows t g k x) (says-words A S final In Good h (place k) (good k x))

  lives : (k : ℕ) → k < t.size → S.live (place k) ≡ true
  lives k x =
      let (w, r) = c.reached (place k) (get_d_mem rows k S.start (row_of_lem S final rows t g k x)) in
      passes_on S (λ p. S.live p ≡ true) (λ p l y m z. z) S.start (place k) w (h.live_to S.start 0 h.good_start h.start-to) r

  finishes : CanFinish A → (k : ℕ) → k < t.size → (w : List ℕ) × Words t k w
  finishes f k x =
      let (q, i) = h.live_of (place k) (good k x) (lives k x) in
      let (w, r) = f q (h.in_range (place k) q (good k x) i) in
      (w, (set_words k x w).1 (q, i, r))

  -- Without edges there are no steps.
  no_steps : A ≡ bare → (k l : ℕ) → k < t.size → Memᴰ l t.labels → t.next k l < t.size → ⊥
  no_steps z k l x m y =
      let (u, e) = next-is S final rows t g k l x m y in
      let (q, i) = h.live_of (S.step (place k) l) (h.good_step (place k) l (good k x)) u in
      let (p, j, n) = h.step-of (place k) l q (good k x) i in
      Memᴰ.not-nil (subst (λ (a : Automaton). IsEdge a (edge p l q)) z n)

  steps-finish : StepsFinish t
  steps-finish k l x m y = case b.no_trap
    where
      case : CanFinish A ⊎ (A ≡ bare) → (w : List ℕ) × Words t (t.next k l) w
      case (inl f) = finishes f (t.next k l) y
      case (inr z) = absurd (no_steps z k l x m y)

  some : 0 < t.size
  some = omega (arith, c.first.0, g.size_is)

  abbrev d : Automaton
  d = numbered t (blocks t)

  least : Minimal t some d
  unfolding numbered
  least = minimal t some

  exact : SameWords (Accepts A) (Accepts d)
  exact =
      let s = subst (λ (p : P). SameWords (Words t 0) (SetReads A S final In Good h p)) c.first.1 (set_words 0 some) in
      same_trans (same-sym (start-words A S final In Good h)) (same_trans (same-sym s) least.words)

  no_edges : A ≡ bare → (a : Edge) → IsEdge d a → ⊥
  no_edges z a m = let (k, l, x, i, y) = least.steps a m in no_steps z k l x i y

  is-bare : A ≡ bare → d ≡ bare
  is-bare z = λ i. record { final = marks d.final refl i; edges = none d.edges refl i }
    where
      none : (l : List Edge) → d.edges ≡ l → l ≡ []
      none [] e = refl
      none (a ∷ l) e = absurd (no_edges z a (subst (Memᴰ a) (sym e) (Memᴰ.head refl)))

      only : (w : List ℕ) (i : ℕ) → Leads d 0 w i → 0 ≡ i
      only [] i r = r
      only (l ∷ w) i (k, e, r) = absurd (no_edges z (edge 0 l k) e)

      marks : (l : List Bool) → d.final ≡ l → l ≡ false ∷ []
      marks [] e = absurd (omega (arith, ap length e, least.well_formed.some_state))
      marks (true ∷ l) e = absurd (bare-reads-none [] (subst (λ (x : Automaton). Accepts x []) z ((exact []).1 (ap (λ x. get_or x 0 false) e))))
      marks (false ∷ []) e = refl
      marks (false ∷ x ∷ l) e = let (w, r) = least.reached 1 (omega (arith, ap length e)) in let y = only w 1 r in absurd (omega arith)

  no_trap : CanFinish A ⊎ (A ≡ bare) → CanFinish d ⊎ (d ≡ bare)
  no_trap (inl f) = inl (λ i x. let (k, y, s) = least.state-of i x in let (w, r) = finishes f k y in (w, (s w).1 r))
  no_trap (inr z) = inr (is-bare z)

  pub numbered-smallest : IsSmallest (Accepts A) d
  numbered-smallest = record {
    well_formed = least.well_formed;
    sorted = least.sorted (subst (λ (l : List ℕ). Rising ◌<◌ l) (sym g.labels_are) b.rising);
    exact = exact;
    reached = least.reached;
    no_trap = no_trap b.no_trap;
    apart = least.apart steps-finish;
    in_turn = least.in_turn;
  }

  pub numbered-count : (count d ≤ length rows) × (length d.edges ≤ count d * length S.labels)
  numbered-count = (omega (arith, least.few, g.size_is), subst (λ (l : List ℕ). length d.edges ≤ count d * length l) g.labels_are least.few_edges)
