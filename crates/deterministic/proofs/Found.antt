-- The automaton of a complete search: its edges are the steps, its words the system's, and its states are numbered breadth first.
use mathlib.Core.Path.{◌≡◌, refl, sym, ap, ◌∙◌, subst}
use mathlib.Core.Logic.{◌⊎◌, inl, inr}
use mathlib.Core.Bool.{Bool, true, false}
use mathlib.Core.List.Memᴰ
use mathlib.Core.List.{List, [], ◌∷◌, ◌++◌, map, Memᴰ}
use Prim.Native.Nat.{ℕ, ◌*◌, ◌<◌, ◌≤◌}
use native.Mathlib.Omega.{arith}
use lib.ListN.{length, get_or, length-map}
use Rattle.lts.specs.inner.Lists.{up_from, keep}
use Rattle.lts.specs.Lists.{Rising}
use Rattle.automaton.specs.Listing.{Edge}
use Rattle.deterministic.specs.Automata.{edge, Automaton, count, IsEdge, Leads, Reads, WellFormed}
use Rattle.deterministic.specs.Smallest.{Before, SameWords}
use Rattle.deterministic.specs.inner.Search.{System, number_of, Move, moves_from, place_at, moves_upto, edge_of, automaton_of}
use Rattle.lts.proofs.Lists.{get_d_mem, map_of, map-to, map_split, map-rising, keep-rising, bind-rising, up_from-rising}
use Rattle.deterministic.proofs.ListLaws.{get_d_map}
use Rattle.deterministic.proofs.Numbers.{Tests, number_mem, number-found}
use Rattle.deterministic.proofs.Visits.{visits-to, all_first, all-numbered, all_in_turn}
use Rattle.deterministic.specs.inner.Explored.{Goes}
use Rattle.deterministic.proofs.Search.{moves_of, upto_few, upto_of, upto_to, Complete}

-- The words of a system from a place.
abbrev pub Speaks : {A : Type 0} → System A → (A → Bool) → A → List ℕ → Type 0
Speaks S final p [] = final p ≡ true
Speaks S final p (l ∷ w) = Memᴰ l S.labels × (S.live (S.step p l) ≡ true) × Speaks S final (S.step p l) w

module _ {A : Type 0} (S : System A) (t : Tests S.same) (rows : List A) (c : Complete S rows) where
  abbrev n : ℕ
  n = length rows

  abbrev number : A → ℕ
  number = number_of S.same rows

  abbrev place : ℕ → A
  place = place_at S rows

  abbrev ms : List (Move A)
  ms = moves_upto S rows n

  pub rows-first : (0 < length rows) × (place 0 ≡ S.start)
  rows-first = subst (λ (l : List A). (0 < length l) × (place_at S l 0 ≡ S.start)) (sym c.built) (all_first S t S.start ms)

  pub rows-numbered : (i : ℕ) → i < n → number (place i) ≡ i
  rows-numbered = subst (λ (l : List A). (i : ℕ) → i < length l → number_of S.same l (place_at S l i) ≡ i) (sym c.built) (all-numbered S t S.start ms)

  -- A step from a row leads to a row.
  pub goal-row : (i l : ℕ) → i < n → Memᴰ l S.labels → S.live (S.step (place i) l) ≡ true
      → (number (S.step (place i) l) < n) × (place (number (S.step (place i) l)) ≡ S.step (place i) l)
  goal-row i l b a k =
      let q = S.step (place i) l in
      let m = subst (Memᴰ q) (sym c.built) (visits-to S t (S.start ∷ []) ms (upto_to S rows n i l b a k)) in
      let x = number_mem t m in
      (x, number-found t rows q S.start x)

  -- What is reached is a row.
  goes_row : (i : ℕ) (w : List ℕ) (q : A) → i < n → Goes S (place i) w q → Memᴰ q rows
  goes_row i [] q b r = Memᴰ.cast (sym r) (get_d_mem rows i S.start b)
  goes_row i (l ∷ w) q b (a, k, r) =
      let (x, y) = goal-row i l b a k in
      goes_row (number (S.step (place i) l)) w q x (subst (λ (p : A). Goes S p w q) (sym y) r)

  pub reached-row : (w : List ℕ) (q : A) → Goes S S.start w q → Memᴰ q rows
  reached-row w q r = let (x, y) = rows-first in goes_row 0 w q x (subst (λ (p : A). Goes S p w q) (sym y) r)

  module _ (final : A → Bool) where
    abbrev d : Automaton
    d = automaton_of S final rows

    pub count_is : count d ≡ n
    unfolding automaton_of
    count_is = length-map rows final

    final-is : (i : ℕ) → i < n → get_or d.final i false ≡ final (place i)
    unfolding automaton_of
    final-is i b = get_d_map final rows i false S.start b

    -- Edges.
    pub record IsStep (e : Edge) : Type 0 where
      pub from_row : e.row < n
      pub label_in : Memᴰ e.label S.labels
      pub lives : S.live (S.step (place e.row) e.label) ≡ true
      pub target_is : e.target ≡ number (S.step (place e.row) e.label)

    pub edge_of_lem : (e : Edge) → IsEdge d e → IsStep e
    unfolding automaton_of
    edge_of_lem e k =
        let (m, a, z) = map_of (edge_of S rows) ms k in
        let (b, y) = upto_of S rows n a in
        let g = y.goal-is in
        let s : IsStep (edge_of S rows m) = record {
          from_row = b;
          label_in = y.label_in;
          lives = ap S.live (sym g) ∙ y.lives;
          target_is = ap number g;
        } in
        subst IsStep (sym z) s

    pub edge_to : (i l : ℕ) → i < n → Memᴰ l S.labels → S.live (S.step (place i) l) ≡ true → IsEdge d (edge i l (number (S.step (place i) l)))
    unfolding automaton_of
    edge_to i l b a k = map-to (edge_of S rows) (upto_to S rows n i l b a k)

    pub found-few-edges : length d.edges ≤ count d * length S.labels
    unfolding automaton_of
    found-few-edges =
        let z : length ms ≤ length (map final rows) * length S.labels = subst (λ (k : ℕ). length ms ≤ k * length S.labels) (sym (length-map rows final)) (upto_few S rows n) in
        omega (arith, length-map ms (edge_of S rows))

    -- Words.
    pub reads_of : (i : ℕ) (w : List ℕ) → i < n → Reads d i w → Speaks S final (place i) w
    reads_of i [] b h = sym (final-is i b) ∙ h
    reads_of i (l ∷ w) b (k, e, h) =
        let s = edge_of_lem (edge i l k) e in
        let (x, y) = goal-row i l b s.label_in s.lives in
        let z = s.target_is in
        let q = reads_of k w (subst (λ (j : ℕ). j < n) (sym z) x) h in
        (s.label_in, s.lives, subst (λ (p : A). Speaks S final p w) (ap place z ∙ y) q)

    pub reads-to : (i : ℕ) (w : List ℕ) → i < n → Speaks S final (place i) w → Reads d i w
    reads-to i [] b h = final-is i b ∙ h
    reads-to i (l ∷ w) b (a, k, h) =
        let (x, y) = goal-row i l b a k in
        let j = number (S.step (place i) l) in
        (j, edge_to i l b a k, reads-to j w x (subst (λ (p : A). Speaks S final p w) (sym y) h))

    pub residual : (i : ℕ) → i < n → SameWords (Reads d i) (Speaks S final (place i))
    residual i b w = (reads_of i w b, reads-to i w b)

    -- What an automaton has to be.
    pub found_well_formed : WellFormed d
    found_well_formed = record {
      some_state = omega (arith, count_is, rows-first.0);
      in_range = λ e k.
          let s = edge_of_lem e k in
          let (x, y) = goal-row e.row e.label s.from_row s.label_in s.lives in
          (omega (arith, count_is, s.from_row), omega (arith, count_is, x, s.target_is));
    }

    leads : (i : ℕ) (w : List ℕ) (q : A) → i < n → Goes S (place i) w q → Leads d i w (number q)
    leads i [] q b r = sym (rows-numbered i b) ∙ ap number r
    leads i (l ∷ w) q b (a, k, r) =
        let (x, y) = goal-row i l b a k in
        let j = number (S.step (place i) l) in
        (j, edge_to i l b a k, leads j w q x (subst (λ (p : A). Goes S p w q) (sym y) r))

    pub found-reached : (i : ℕ) → i < count d → (w : List ℕ) × Leads d 0 w i
    found-reached i b =
        let b' : i < n = omega (arith, count_is) in
        let (w, r) = c.reached (place i) (get_d_mem rows i S.start b') in
        let (x, y) = rows-first in
        (w, subst (Leads d 0 w) (rows-numbered i b') (leads 0 w (place i) x (subst (λ (p : A). Goes S p w (place i)) (sym y) r)))

    abbrev MoveBefore : Move A → Move A → Type 0
    MoveBefore a b = (a.row < b.row) ⊎ ((a.row ≡ b.row) × (a.label < b.label))

    moves-rising : Rising ◌<◌ S.labels → Rising MoveBefore ms
    unfolding moves_upto moves_from
    moves-rising r = bind-rising (λ i. moves_from S i (place i)) ◌<◌ MoveBefore (up_from 0 n) (up_from-rising 0 n)
        (λ i m. map-rising (λ l. record { row = i; label = l; goal = S.step (place i) l }) ◌<◌ MoveBefore (keep (λ l. S.live (S.step (place i) l)) S.labels) (λ x y a b h. inr (refl, h))
        (keep-rising (λ l. S.live (S.step (place i) l)) ◌<◌ S.labels r))
        (λ i j h a b x y. let u = (moves_of S i (place i) x).row_is in let v = (moves_of S j (place j) y).row_is in inl (omega arith))

    pub found-sorted : Rising ◌<◌ S.labels → Rising Before d.edges
    unfolding automaton_of
    found-sorted r = map-rising (edge_of S rows) MoveBefore Before ms (λ x y a b h. h) (moves-rising r)

    in_turn_rows : (pre : List (Move A)) (x : Move A) (post : List (Move A)) → ms ≡ pre ++ (x ∷ post) → (i : ℕ) → 1 ≤ i → i < number x.goal
        → (m : Move A) × Memᴰ m pre × (number m.goal ≡ i)
    in_turn_rows = subst (λ (l : List A). (pre : List (Move A)) (x : Move A) (post : List (Move A)) → ms ≡ pre ++ (x ∷ post) → (i : ℕ) → 1 ≤ i
        → i < number_of S.same l x.goal → (m : Move A) × Memᴰ m pre × (number_of S.same l m.goal ≡ i))
        (sym c.built) (all_in_turn S t S.start ms)

    pub found_in_turn : (before after : List Edge) (e : Edge) → d.edges ≡ before ++ (e ∷ after) → (i : ℕ) → 1 ≤ i → i < e.target → (a : Edge) × Memᴰ a before × (a.target ≡ i)
    unfolding automaton_of
    found_in_turn before after e q i b h =
        let (pre, x, post, y, z, u) = map_split (edge_of S rows) ms before after e q in
        let v : e.target ≡ number x.goal = ap (λ (a : Edge). a.target) (sym u) in
        let (m, k, o) = in_turn_rows pre x post y i b (omega arith) in
        (edge_of S rows m, subst (Memᴰ (edge_of S rows m)) z (map-to (edge_of S rows) k), o)
