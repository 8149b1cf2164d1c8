-- A listing that is as a listing has to be is `listing`: what 01 says of rows and edges determines them.
use mathlib.Core.Path.{◌≡◌, refl, sym, ap, ◌∙◌, subst}
use mathlib.Core.Logic.{◌⊎◌, inl, inr}
use mathlib.Core.Bool.{Bool, true, false, cond}
use mathlib.Core.List.Memᴰ
use mathlib.Core.List.{List, [], ◌∷◌, ◌++◌, map, append-nil, append_assoc, Memᴰ}
use Prim.Native.Nat.{ℕ, zero, suc, ◌+◌, ◌-◌, ◌<◌, ◌≤◌}
use native.Mathlib.Decide.{dec_lt}
use native.Mathlib.Omega.{arith}
use lib.Dec.{ltb}
use lib.ListN.{length, get_or, length-append, length-map}
use lib.Seq.{get_or-append_seam}
use borrow.Author.Tests.{ltb-true}
use Rattle.lts.specs.Steps.{Table}
use Rattle.lts.specs.inner.Range.{InRange}
use Rattle.lts.proofs.Lists.{get_d_mem, mem_index, map_of, map_append, rising_unique}
use Rattle.actl.specs.Formulas.{Formula}
use Rattle.actl.proofs.Classes.{HasClass}
use Rattle.automaton.specs.Places.{Final}
use Rattle.automaton.specs.Positions.{Position, at, root_at, Reached, begin, onward, Entered, stop, CanFinish}
use Rattle.automaton.specs.inner.Search.{can_finish, number_of, seen, final, Move, moves_from, position_at, visit, visits, expand_among, search_among, positions_among}
use Rattle.automaton.specs.inner.Search.{expand, search, positions, moves_upto, row_of, edge_of, listing}
use Rattle.automaton.specs.Listing.{Row, Edge, Listing}
use Rattle.automaton.specs.Listed.{row_at, placed, IsRow, Listed}
use Rattle.automaton.proofs.Tests.{final-is}
use Rattle.automaton.proofs.Numbers.{number_append, number_past, number_mem, number-found, unseen}
use Rattle.automaton.proofs.Inside.{room, reached-inside}
use Rattle.automaton.proofs.Moves.{upto_of}
use Rattle.automaton.proofs.Visits.{visits-more, visits-to, visits_append}
use Rattle.automaton.proofs.Cuts.{upto_split}
use Rattle.automaton.proofs.Search.{Expanded, upto_next, expanded, starting}
use Rattle.automaton.proofs.Rows.{ClosedRows, BeforeIn, edges_of, move_finishes, edges-of, edges-to, edges-rising}
use Rattle.automaton.proofs.Listed.{Lists, row_down, row_up, edge-up, edge_down, rising_down, root-position, positions-to}
use Rattle.automaton.proofs.Reading.{row_for}
use Rattle.lts.proofs.Booleans.{same_truth}

pub lex : (a b : ℕ) {X Y : Type 0} → (X → Y → ⊥) → (a < b) ⊎ ((a ≡ b) × X) → (b < a) ⊎ ((b ≡ a) × Y) → ⊥
lex a b h (inl x) (inl y) = omega arith
lex a b h (inl x) (inr y) = omega (arith, y.0)
lex a b h (inr x) (inl y) = omega (arith, x.0)
lex a b h (inr x) (inr y) = h x.1 y.1

pub never_both : (rows : List Position) (a b : Edge) → BeforeIn rows a b → BeforeIn rows b a → ⊥
never_both rows a b x y =
    let p = position_at rows a.target in
    let q = position_at rows b.target in
    lex a.row b.row (lex a.label b.label (lex p.place q.place (λ u v. omega arith))) x y

none : {A : Type 0} (l : List A) → ((x : A) → Memᴰ x l → ⊥) → l ≡ []
none [] h = refl
none (x ∷ l) h = absurd (h x (Memᴰ.head refl))

abbrev position_of : Row → Position
position_of r = at r.place r.state

-- The positions of a listing's rows.
abbrev pub positions_in : Listing → List Position
positions_in L = map position_of L.rows

abbrev no_row : Row
no_row = record { place = 0; state = 0; final = false }

placed_by : (rows : List Row) (i : ℕ) → position_of (get_or rows i no_row) ≡ position_at (map position_of rows) i
placed_by [] i = refl
placed_by (r ∷ rows) zero = refl
placed_by (r ∷ rows) (suc i) = placed_by rows i

pub lists_positions : (L : Listing) → Lists L (positions_in L)
lists_positions L = record { sized = sym (length-map L.rows position_of); at_row = placed_by L.rows }

rows-from : (F : Formula) (rows : List Row) → ((i : ℕ) → i < length rows → (get_or rows i no_row).final ≡ final F (get_or rows i no_row).place) → rows ≡ map (row_of F) (map position_of rows)
rows-from F [] h = refl
rows-from F (r ∷ rows) h =
    let e : r ≡ row_of F (position_of r) = λ i. record { place = r.place; state = r.state; final = h 0 (omega arith) i } in
    let d = rows-from F rows (λ i b. h (suc i) (omega arith)) in
    λ i. e i ∷ d i

module _ (t : Table) (F : Formula) (L : Listing) (h : Listed t F L) where
  abbrev R : List Position
  R = positions_in L

  abbrev M : List Move
  M = moves_upto t F R (length R)

  abbrev k : Lists L R
  k = lists_positions L

  -- If the root cannot finish, there is one row and no edge. 01: "one row, not final, and no edges".
  pub bare-row : (CanFinish t F (root_at t) → ⊥) → (length L.rows ≡ 1) × (L.edges ≡ []) × ((row_at L 0).final ≡ false)
  bare-row n = (alone (dec_lt 1 (length L.rows)), none L.edges (λ e m. n (h.edge_of_lem e m).3), unmarked (row_at L 0).final refl)
    where
      alone : Dec (1 < length L.rows) → length L.rows ≡ 1
      alone (yes b) = let (e, m, z) = h.named 1 (omega arith) b in absurd (n (h.edge_of_lem e m).3)
      alone (no b) = omega (arith, h.some_row_lem)

      unmarked : (b : Bool) → (row_at L 0).final ≡ b → b ≡ false
      unmarked true e = absurd (n ([], stop (subst (λ (p : Position). Final F p.place) h.first ((h.marked 0 h.some_row_lem).0 e))))
      unmarked false e = refl

  standing : (p : Position) → (p ≡ root_at t) ⊎ (Entered t F p × CanFinish t F p) → Reached t F p
  standing p (inl e) = subst (Reached t F) (sym e) begin
  standing p (inr ((q, l, r, j), u)) = onward r j

  row-at : (p : Position) → Memᴰ p R → (p ≡ root_at t) ⊎ (Entered t F p × CanFinish t F p)
  row-at p n =
      let (i, b, e) = mem_index (at 0 0) n in
      subst (λ (q : Position). (q ≡ root_at t) ⊎ (Entered t F q × CanFinish t F q)) (k.at_row i ∙ e) (h.row_of_lem i (row_up k b))

  row_mem : {p : Position} → Reached t F p → CanFinish t F p → Memᴰ p R
  row_mem r u = let a = row_for t F L h r u in Memᴰ.cast (sym (sym (k.at_row a.row) ∙ a.there)) (get_d_mem R a.row (at 0 0) (row_down k a.is_row))

  module _ (w : InRange t) (c : HasClass F) where
    closed : ClosedRows t F R
    closed = record {
      in_row = λ i b. let n = number_mem (get_d_mem R i (at 0 0) b) in
          h.once (number_of R (position_at R i)) i (row_up k n) (row_up k b) (k.at_row (number_of R (position_at R i)) ∙ (number-found R (position_at R i) (at 0 0) n ∙ sym (k.at_row i)));
      reached = λ p n. standing p (row-at p n);
      root-or_finishing = λ p n. elim (row-at p n) [ inl e ↦ inl e | inr d ↦ inr d.1 ];
      goals = λ m n.
          let (b, z) = upto_of (can_finish t F) t F R (length R) n in
          let x = position_at R m.row in
          row_mem (onward (standing x (row-at x (get_d_mem R m.row (at 0 0) b))) z.joins) (move_finishes t F w c z);
    }

    edges_are : L.edges ≡ edges_of t F R
    edges_are = rising_unique (BeforeIn R) (never_both R) L.edges (edges_of t F R) (rising_down k L.edges h.sorted) (edges-rising t F w c R closed)
        (λ e n. let x = h.edge_of_lem e n in edges-to t F w c R closed e (edge_down k t F e x.0 x.1 x.2 x.3))
        (λ e n. let x = edge-up k t F e (edges-of t F w c R closed e n) in h.edge_to e x.0 x.1 x.2 x.3)

    turn : (pre : List Move) (x : Move) (post : List Move) → M ≡ pre ++ (x ∷ post) → (i : ℕ) → 1 ≤ i → i < number_of R x.goal → (m : Move) × Memᴰ m pre × (number_of R m.goal ≡ i)
    turn pre x post e i c b =
        let (a, n, d) = h.in_turn (map (edge_of R) pre) (map (edge_of R) post) (edge_of R x) (edges_are ∙ (ap (map (edge_of R)) e ∙ map_append (edge_of R) pre (x ∷ post))) i c b in
        let (m, k, z) = map_of (edge_of R) pre n in
        (m, k, ap (λ (y : Edge). y.target) (sym z) ∙ d)

    abbrev Prefix : List Position → Type 0
    Prefix P = (extra : List Position) × (R ≡ P ++ extra)

    abbrev after : List Move → List Position
    after done = visits (root_at t ∷ []) done

    next_row : (P extra : List Position) (g : Position) → R ≡ P ++ extra → length P < length R → position_at R (length P) ≡ g → Prefix (P ++ (g ∷ []))
    next_row P [] g e b z = absurd (omega (arith, ap length e, length-append P []))
    next_row P (y ∷ rest) g e b z =
        let d : y ≡ g = sym (get_or-append_seam P y rest (at 0 0)) ∙ (ap (λ l. position_at l (length P)) (sym e) ∙ z) in
        (rest, e ∙ (ap (λ x. P ++ (x ∷ rest)) d ∙ sym (append_assoc P (g ∷ []) rest)))

    visit_prefix : (done : List Move) (x : Move) (post : List Move) → M ≡ done ++ (x ∷ post) → Prefix (after done) → Prefix (visit (after done) x)
    unfolding visit
    visit_prefix done x post e (extra, q) = case (seen (after done) x.goal) refl
      where
        in_moves : Memᴰ x M
        in_moves = subst (Memᴰ x) (sym e) (Memᴰ.append_right done (Memᴰ.head refl))

        number_is : length (after done) ≤ number_of (after done) x.goal → number_of R x.goal ≡ length (after done) + number_of extra x.goal
        number_is u = ap (λ l. number_of l x.goal) q ∙ number_past (after done) extra x.goal u

        some_done : 1 ≤ length (after done)
        some_done = let (a, d) = visits-more (root_at t ∷ []) done in omega (arith, ap length d)

        -- The next number_of has not been mentioned.
        late : (m : Move) × Memᴰ m done × (number_of R m.goal ≡ length (after done)) → ⊥
        late (m, n, z) =
            let b = number_mem (visits-to (root_at t ∷ []) done n) in
            omega (arith, ap (λ l. number_of l m.goal) q, number_append (after done) extra m.goal b)

        exact : length (after done) ≤ number_of (after done) x.goal → Dec (length (after done) < number_of R x.goal) → number_of R x.goal ≡ length (after done)
        exact u (yes b) = absurd (late (turn done x post e (length (after done)) some_done b))
        exact u (no b) = omega (arith, number_is u)

        case : (b : Bool) → seen (after done) x.goal ≡ b → Prefix (cond b (after done) (after done ++ (x.goal ∷ [])))
        case true d = (extra, q)
        case false d =
            let u = (unseen (after done) x.goal d).0 in
            let z = exact u (dec_lt (length (after done)) (number_of R x.goal)) in
            let b = number_mem (closed.goals x in_moves) in
            next_row (after done) extra x.goal q (omega arith) (ap (position_at R) (sym z) ∙ number-found R x.goal (at 0 0) b)

    visits_prefix : (ms done post : List Move) → M ≡ done ++ (ms ++ post) → Prefix (after done) → Prefix (visits (after done) ms)
    unfolding visits
    visits_prefix [] done post e p = p
    visits_prefix (x ∷ ms) done post e p =
        let d : after (done ++ (x ∷ [])) ≡ visit (after done) x = visits_append (root_at t ∷ []) done (x ∷ []) in
        subst (λ (l : List Position). Prefix (visits l ms)) d
        (visits_prefix ms (done ++ (x ∷ [])) post (e ∙ sym (append_assoc done (x ∷ []) (ms ++ post))) (subst Prefix (sym d) (visit_prefix done x (ms ++ post) e p)))

    root_prefix : Prefix (root_at t ∷ [])
    root_prefix = case R refl
      where
        case : (l : List Position) → R ≡ l → Prefix (root_at t ∷ [])
        case [] e = absurd (omega (arith, row_down k h.some_row_lem, ap length e))
        case (x ∷ l) e = (l, e ∙ ap (λ y. y ∷ l) (ap (λ y. position_at y 0) (sym e) ∙ (sym (k.at_row 0) ∙ h.first)))

    moves_prefix : (pre post : List Move) → M ≡ pre ++ post → Prefix (after pre)
    unfolding visits
    moves_prefix pre post e = visits_prefix pre [] post e root_prefix

    expand_prefix : (i : ℕ) (P : List Position) → Expanded (can_finish t F) t F i P → i < length P → Prefix P → Prefix (expand t F P i)
    unfolding expand_among
    expand_prefix i P g b (extra, q) =
        let b' : suc i ≤ length R = omega (arith, ap length q, length-append P extra) in
        let (rest, e) = upto_split (can_finish t F) t F R (length R - suc i) (suc i) in
        let z : length R ≡ length R - suc i + suc i = omega arith in
        let m : moves_upto t F R (suc i) ≡ moves_upto t F P i ++ moves_from t F i (position_at P i) = ap (λ l. moves_upto t F l (suc i)) q ∙ upto_next (can_finish t F) t F P extra i b in
        let d : after (moves_upto t F R (suc i)) ≡ visits P (moves_from t F i (position_at P i)) =
        ap after m ∙ (visits_append (root_at t ∷ []) (moves_upto t F P i) (moves_from t F i (position_at P i)) ∙ ap (λ l. visits l (moves_from t F i (position_at P i))) (sym g.built)) in
        subst Prefix d (moves_prefix (moves_upto t F R (suc i)) rest (ap (moves_upto t F R) z ∙ e))

    search_prefix : (n i : ℕ) (P : List Position) → Expanded (can_finish t F) t F i P → Prefix P → Prefix (search t F n i P)
    unfolding search_among
    search_prefix zero i P g p = p
    search_prefix (suc n) i P g p = case (ltb i (length P)) refl (λ b. search_prefix n (suc i) (expand t F P i) (expanded (can_finish t F) t F i P g b) (expand_prefix i P g b p))
      where
        case : (c : Bool) → ltb i (length P) ≡ c → (i < length P → Prefix (search t F n (suc i) (expand t F P i))) → Prefix (cond c (search t F n (suc i) (expand t F P i)) P)
        case true e k = k (ltb-true i (length P) e)
        case false e k = p

    all-rows : (p : Position) → Memᴰ p R → Memᴰ p (positions t F)
    all-rows p n = case (row-at p n)
      where
        case : (p ≡ root_at t) ⊎ (Entered t F p × CanFinish t F p) → Memᴰ p (positions t F)
        case (inl e) = Memᴰ.cast e (root-position t F w c)
        case (inr d) = positions-to t F w c (standing p (inr d)) d.1

    rows_are : R ≡ positions t F
    unfolding positions_among
    rows_are = let (extra, q) = search_prefix (room t F) 0 (root_at t ∷ []) (starting (can_finish t F) t F w) root_prefix in
        q ∙ (ap (λ l. positions t F ++ l) (no_more extra q) ∙ append-nil (positions t F))
      where
        no_more : (extra : List Position) → R ≡ positions t F ++ extra → extra ≡ []
        no_more [] q = refl
        no_more (x ∷ extra) q =
            let S = positions t F in
            let b : length S < length R = omega (arith, ap length q, length-append S (x ∷ extra)) in
            let c = number_mem (all-rows (position_at R (length S)) (get_d_mem R (length S) (at 0 0) b)) in
            absurd (omega (arith, closed.in_row (length S) b, ap (λ l. number_of l (position_at R (length S))) q, number_append S (x ∷ extra) (position_at R (length S)) c, c))

    mark : (i : ℕ) → IsRow L i → (row_at L i).final ≡ final F (row_at L i).place
    mark i b =
        let p = placed L i in
        let n = reached-inside t F w (closed.reached p (Memᴰ.cast (k.at_row i) (get_d_mem R i (at 0 0) (row_down k b)))) in
        let f = final-is F p.place n.0 in
        let g = h.marked i b in
        same_truth (row_at L i).final (final F p.place) (λ e. f.1 (g.0 e)) (λ e. g.1 (f.0 e))

    pub listed-is-listing : L ≡ listing t F
    unfolding listing
    listed-is-listing =
        let e = rows-from F L.rows mark in
        (λ i. record { rows = e i; edges = edges_are i }) ∙ ap (λ (l : List Position). record { rows = map (row_of F) l; edges = edges_of t F l }) rows_are
