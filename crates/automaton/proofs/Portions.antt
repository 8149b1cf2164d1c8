-- The listing of all reached positions in portions: after each expanded row, the rows found and the edges listed so far are a beginning of
-- those after any more, and the whole when no row is left to expand.
use mathlib.Core.Path.{◌≡◌, sym, ap, ◌∙◌, subst}
use mathlib.Core.List.{List, [], ◌∷◌, ◌++◌, map, Memᴰ}
use Prim.Native.Nat.{ℕ, zero, suc, ◌+◌, ◌-◌, ◌*◌, ◌<◌, ◌≤◌, min}
use native.Mathlib.Nat.{zero-add}
use native.Mathlib.Decide.{dec_lt}
use native.Mathlib.Omega.{arith}
use lib.ListN.{length, length-append}
use Rattle.lts.specs.Steps.{Table}
use Rattle.lts.specs.inner.Range.{InRange}
use Rattle.lts.proofs.Lists.{map_append}
use Rattle.actl.specs.Formulas.{Formula, size}
use Rattle.automaton.specs.Positions.{Position, root_at}
use Rattle.automaton.specs.inner.Search.{number_of, Move, position_at, moves_from_among, moves_upto_among, expand_among, search_among, positions_among, row_of, edge_of}
use Rattle.automaton.specs.Listing.{Row, Edge, Listing}
use Rattle.automaton.specs.inner.DeadEnds.{any_position, all_positions, listed, whole_listing, found_after, listed_after}
use Rattle.automaton.proofs.Kept.{map_same}
use Rattle.automaton.proofs.Numbers.{number_append, number_mem}
use Rattle.automaton.proofs.Inside.{room}
use Rattle.automaton.proofs.Moves.{upto_append}
use Rattle.automaton.proofs.Visits.{visits-to}
use Rattle.automaton.proofs.Cuts.{search-stop, search-on, search-more, search_cut, upto_split}
use Rattle.automaton.proofs.Search.{Expanded, upto_next, expanded, bounded, starting, among_few}

module _ (t : Table) (F : Formula) where
  abbrev found : ℕ → List Position
  found i = found_after t F i

  -- The rows that have been expanded.
  abbrev done : ℕ → ℕ
  done i = min i (length (found i))

  abbrev moves : List Position → ℕ → List Move
  moves rows n = moves_upto_among any_position t F rows n

  found_cut : (i d : ℕ) → found (i + d) ≡ search_among any_position t F d i (found i)
  found_cut i d = search_cut any_position t F i d 0 (root_at t ∷ []) ∙ ap (λ k. search_among any_position t F d k (found i)) (zero-add i)

  pub found-next : (i : ℕ) → i < length (found i) → found (suc i) ≡ expand_among any_position t F (found i) i
  unfolding search_among
  found-next i h = let z : suc i ≡ i + 1 = omega arith in ap found z ∙ (found_cut i 1 ∙ search-on any_position t F 0 i (found i) h)

  pub found-stays : (i d : ℕ) → length (found i) ≤ i → found (i + d) ≡ found i
  found-stays i d h = found_cut i d ∙ search-stop any_position t F d i (found i) h

  pub found-begins : (i j : ℕ) → i ≤ j → (extra : List Position) × (found j ≡ found i ++ extra)
  found-begins i j h =
      let z : j ≡ i + (j - i) = omega arith in
      let (extra, e) = search-more any_position t F (j - i) i (found i) in
      (extra, ap found z ∙ (found_cut i (j - i) ∙ e))

  module _ (w : InRange t) where
    found_expanded : (i : ℕ) → Expanded any_position t F (done i) (found i)
    unfolding search_among
    found_expanded zero = let z : 0 ≡ done 0 = omega arith in subst (λ (n : ℕ). Expanded any_position t F n (root_at t ∷ [])) z (starting any_position t F w)
    found_expanded (suc i) = case (dec_lt i (length (found i))) (found_expanded i)
      where
        case : Dec (i < length (found i)) → Expanded any_position t F (done i) (found i) → Expanded any_position t F (done (suc i)) (found (suc i))
        case (yes b) g =
            let a : done i ≡ i = omega arith in
            let e = expanded any_position t F i (found i) (subst (λ (n : ℕ). Expanded any_position t F n (found i)) a g) b in
            let z : suc i ≡ done (suc i) = omega (arith, e.started, ap length (found-next i b)) in
            subst (λ (n : ℕ). Expanded any_position t F n (found (suc i))) z (subst (Expanded any_position t F (suc i)) (sym (found-next i b)) e)
        case (no b) g =
            let y : suc i ≡ i + 1 = omega arith in
            let s : found (suc i) ≡ found i = ap found y ∙ found-stays i 1 (omega arith) in
            let z : done i ≡ done (suc i) = omega (arith, ap length s) in
            subst (λ (n : ℕ). Expanded any_position t F n (found (suc i))) z (subst (Expanded any_position t F (done i)) (sym s) g)

    pub found-few : (i : ℕ) → length (found i) ≤ suc (size F) * t.states
    found-few i = bounded any_position t F w (done i) (found i) (found_expanded i)

    -- The goals of the rows that have been expanded are found, so their numbers stay.
    number-stays : (i : ℕ) (extra : List Position) (m : Move) → Memᴰ m (moves (found i) (done i)) → number_of (found i ++ extra) m.goal ≡ number_of (found i) m.goal
    number-stays i extra m n =
        let k = subst (Memᴰ m.goal) (sym (found_expanded i).built) (visits-to (root_at t ∷ []) (moves (found i) (done i)) n) in
        number_append (found i) extra m.goal (number_mem k)

    edges-stay : (i : ℕ) (extra : List Position) → map (edge_of (found i ++ extra)) (moves (found i) (done i)) ≡ (listed_after t F i).edges
    edges-stay i extra = map_same (edge_of (found i ++ extra)) (edge_of (found i)) (moves (found i) (done i))
        (λ m n. let z = number-stays i extra m n in λ j. record { row = m.row; label = m.label; target = z j })

    edges_more : (i : ℕ) (extra : List Position) (rest : List Move)
        → map (edge_of (found i ++ extra)) (moves (found i) (done i) ++ rest) ≡ (listed_after t F i).edges ++ map (edge_of (found i ++ extra)) rest
    edges_more i extra rest = map_append (edge_of (found i ++ extra)) (moves (found i) (done i)) rest ∙ ap (λ l. l ++ map (edge_of (found i ++ extra)) rest) (edges-stay i extra)

    pub rows-begin : (i j : ℕ) → i ≤ j → (extra : List Row) × ((listed_after t F j).rows ≡ (listed_after t F i).rows ++ extra)
    rows-begin i j h = let (extra, e) = found-begins i j h in (map (row_of F) extra, ap (map (row_of F)) e ∙ map_append (row_of F) (found i) extra)

    pub edges-begin : (i j : ℕ) → i ≤ j → (extra : List Edge) × ((listed_after t F j).edges ≡ (listed_after t F i).edges ++ extra)
    edges-begin i j h =
        let (extra, e) = found-begins i j h in
        let n : done i ≤ done j = omega (arith, ap length e, length-append (found i) extra) in
        let (rest, d) = upto_split any_position t F (found i ++ extra) (done j - done i) (done i) in
        let z : done j ≡ done j - done i + done i = omega arith in
        let x : moves (found j) (done j) ≡ moves (found i) (done i) ++ rest =
        ap (λ l. moves l (done j)) e ∙ (ap (moves (found i ++ extra)) z ∙ (d ∙ ap (λ l. l ++ rest) (upto_append any_position t F (found i) extra (done i) (omega arith)))) in
        (map (edge_of (found i ++ extra)) rest, ap (λ l. map (edge_of l) (moves (found j) (done j))) e ∙ (ap (map (edge_of (found i ++ extra))) x ∙ edges_more i extra rest))

    -- One more row: its edges follow, numbered by what is found with it.
    pub edges-next : (i : ℕ) → i < length (found i)
        → (listed_after t F (suc i)).edges ≡ (listed_after t F i).edges ++ map (edge_of (found (suc i))) (moves_from_among any_position t F i (position_at (found i) i))
    edges-next i b =
        let (extra, e) = found-begins i (suc i) (omega arith) in
        let from = moves_from_among any_position t F i (position_at (found i) i) in
        let a : i ≡ done i = omega arith in
        let z : done (suc i) ≡ suc i = omega (arith, (found_expanded (suc i)).started, ap length e, length-append (found i) extra) in
        let x : moves (found (suc i)) (done (suc i)) ≡ moves (found i) (done i) ++ from =
        ap (λ l. moves l (done (suc i))) e ∙ (ap (moves (found i ++ extra)) z ∙ (upto_next any_position t F (found i) extra i b ∙ ap (λ k. moves (found i) k ++ from) a)) in
        ap (λ l. map (edge_of l) (moves (found (suc i)) (done (suc i)))) e
        ∙ (ap (map (edge_of (found i ++ extra))) x ∙ (edges_more i extra from ∙ ap (λ l. (listed_after t F i).edges ++ map (edge_of l) from) (sym e)))

    -- The whole.
    found-enough : (d : ℕ) → found (room t F + d) ≡ all_positions t F
    unfolding positions_among
    found-enough d = found-stays (room t F) d (among_few any_position t F w)

    pub found_all : (i : ℕ) → length (found i) ≤ i → found i ≡ all_positions t F
    found_all i h = let z : i + room t F ≡ room t F + i = omega arith in sym (found-stays i (room t F) h) ∙ (ap found z ∙ found-enough i)

    pub listed-whole : (i : ℕ) → length (found i) ≤ i → listed_after t F i ≡ whole_listing t F
    listed-whole i h = let z : done i ≡ length (found i) = omega arith in ap (listed t F (found i)) z ∙ ap (λ l. listed t F l (length l)) (found_all i h)

    late_whole : (i : ℕ) → listed_after t F (i + room t F) ≡ whole_listing t F
    late_whole i = listed-whole (i + room t F) (omega (arith, found-few (i + room t F)))

    pub rows-begin-whole : (i : ℕ) → (extra : List Row) × ((whole_listing t F).rows ≡ (listed_after t F i).rows ++ extra)
    rows-begin-whole i = let (extra, e) = rows-begin i (i + room t F) (omega arith) in (extra, ap (λ (l : Listing). l.rows) (sym (late_whole i)) ∙ e)

    pub edges-begin-whole : (i : ℕ) → (extra : List Edge) × ((whole_listing t F).edges ≡ (listed_after t F i).edges ++ extra)
    edges-begin-whole i = let (extra, e) = edges-begin i (i + room t F) (omega arith) in (extra, ap (λ (l : Listing). l.edges) (sym (late_whole i)) ∙ e)
