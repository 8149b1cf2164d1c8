-- The search: its rows are the start and then the goals of the moves of the rows, each where it is first mentioned.
use mathlib.Core.Path.{◌≡◌, refl, sym, ap, ◌∙◌, subst}
use mathlib.Core.Logic.{◌⊎◌, inl, inr}
use mathlib.Core.Bool.{Bool, true, false, cond}
use mathlib.Core.List.Memᴰ
use mathlib.Core.List.{List, [], ◌∷◌, ◌++◌, append-nil, Memᴰ}
use Prim.Native.Nat.{ℕ, zero, suc, ◌+◌, ◌*◌, ◌<◌, ◌≤◌}
use native.Mathlib.Omega.{arith}
use lib.Dec.{ltb}
use lib.ListN.{length, length-append, length-map, get_or-append}
use borrow.Author.Tests.{ltb-true, ltb-false}
use Rattle.lts.specs.inner.Lists.{up_from, keep}
use Rattle.lts.specs.Lists.{bind}
use Rattle.deterministic.specs.inner.Explored.{Goes, Reached}
use Rattle.deterministic.specs.inner.Search.{System, Move, moves_from, place_at, visits, expand, search, found, moves_upto}
use Rattle.lts.proofs.Lists.{get_d_mem, keep-of, keep-to, map_of, map-to, bind-of, bind_to, bind_append, bind-same, up_from-of, up_from-to, up_from_snoc, up_from-length}
use Rattle.deterministic.proofs.ListLaws.{keep-few, bind-length}
use Rattle.deterministic.proofs.Numbers.{Tests}
use Rattle.deterministic.proofs.Visits.{visits-more, visits-of, visits_append}

module _ {A : Type 0} (S : System A) where
  -- A move of row i at place p.
  pub record IsMove (i : ℕ) (p : A) (m : Move A) : Type 0 where
    pub row_is : m.row ≡ i
    pub label_in : Memᴰ m.label S.labels
    pub goal-is : m.goal ≡ S.step p m.label
    pub lives : S.live m.goal ≡ true

  pub moves_of : (i : ℕ) (p : A) {m : Move A} → Memᴰ m (moves_from S i p) → IsMove i p m
  unfolding moves_from
  moves_of i p {m} n =
      let (l, k, e) = map_of (λ l. record { row = i; label = l; goal = S.step p l }) (keep (λ l. S.live (S.step p l)) S.labels) n in
      let (a, b) = keep-of (λ l. S.live (S.step p l)) S.labels k in
      let z = ap (λ (x : Move A). x.label) e in
      let g = ap (λ (x : Move A). x.goal) e in
      record {
        row_is = ap (λ (x : Move A). x.row) e;
        label_in = subst (λ y. Memᴰ y S.labels) (sym z) a;
        goal-is = g ∙ ap (S.step p) (sym z);
        lives = ap S.live g ∙ b;
      }

  pub moves-to : (i : ℕ) (p : A) (l : ℕ) → Memᴰ l S.labels → S.live (S.step p l) ≡ true → Memᴰ (record { row = i; label = l; goal = S.step p l }) (moves_from S i p)
  unfolding moves_from
  moves-to i p l a b = map-to (λ l. record { row = i; label = l; goal = S.step p l }) (keep-to (λ l. S.live (S.step p l)) S.labels a b)

  moves-few : (i : ℕ) (p : A) → length (moves_from S i p) ≤ length S.labels
  unfolding moves_from
  moves-few i p =
      let f : ℕ → Move A = λ l. record { row = i; label = l; goal = S.step p l } in
      omega (arith, length-map (keep (λ l. S.live (S.step p l)) S.labels) f, keep-few (λ l. S.live (S.step p l)) S.labels)

  pub upto_few : (rows : List A) (n : ℕ) → length (moves_upto S rows n) ≤ n * length S.labels
  unfolding moves_upto
  upto_few rows n = subst (λ (k : ℕ). length (bind (λ i. moves_from S i (place_at S rows i)) (up_from 0 n)) ≤ k * length S.labels) (up_from-length 0 n)
      (bind-length (λ i. moves_from S i (place_at S rows i)) (length S.labels) (up_from 0 n) (λ i. moves-few i (place_at S rows i)))

  pub upto_of : (rows : List A) (n : ℕ) {m : Move A} → Memᴰ m (moves_upto S rows n) → (m.row < n) × IsMove m.row (place_at S rows m.row) m
  unfolding moves_upto
  upto_of rows n {m} k =
      let (i, a, b) = bind-of (λ i. moves_from S i (place_at S rows i)) (up_from 0 n) k in
      let z = moves_of i (place_at S rows i) b in
      let y = z.row_is in
      (omega (arith, (up_from-of 0 n a).1), subst (λ (j : ℕ). IsMove j (place_at S rows j) m) (sym y) z)

  pub upto_to : (rows : List A) (n i l : ℕ) → i < n → Memᴰ l S.labels → S.live (S.step (place_at S rows i) l) ≡ true
      → Memᴰ (record { row = i; label = l; goal = S.step (place_at S rows i) l }) (moves_upto S rows n)
  unfolding moves_upto
  upto_to rows n i l b a c = bind_to (λ j. moves_from S j (place_at S rows j)) (up_from-to 0 n i (omega arith) (omega arith)) (moves-to i (place_at S rows i) l a c)

  upto_suc : (rows : List A) (n : ℕ) → moves_upto S rows (suc n) ≡ moves_upto S rows n ++ moves_from S n (place_at S rows n)
  unfolding moves_upto
  upto_suc rows n =
      let f : ℕ → List (Move A) = λ i. moves_from S i (place_at S rows i) in
      ap (bind f) (up_from_snoc n) ∙ (bind_append f (up_from 0 n) (n ∷ []) ∙ ap (λ l. bind f (up_from 0 n) ++ l) (append-nil (f n)))

  upto_append : (rows more : List A) (n : ℕ) → n ≤ length rows → moves_upto S (rows ++ more) n ≡ moves_upto S rows n
  unfolding moves_upto
  upto_append rows more n h = bind-same _ _ (up_from 0 n) (λ i k. ap (moves_from S i) (get_or-append rows more S.start i (omega (arith, (up_from-of 0 n k).1))))

  pub upto_next : (rows more : List A) (i : ℕ) → i < length rows → moves_upto S (rows ++ more) (suc i) ≡ moves_upto S rows i ++ moves_from S i (place_at S rows i)
  upto_next rows more i h = upto_suc (rows ++ more) i ∙ (ap (λ l. l ++ moves_from S i (place_at S (rows ++ more) i)) (upto_append rows more i (omega arith))
      ∙ ap (λ p. moves_upto S rows i ++ moves_from S i p) (get_or-append rows more S.start i h))

  goes_on : (p q : A) (w : List ℕ) (l : ℕ) → Goes S p w q → Memᴰ l S.labels → S.live (S.step q l) ≡ true → Goes S p (w ++ (l ∷ [])) (S.step q l)
  goes_on p q [] l r a b = (a, subst (λ x. S.live (S.step x l) ≡ true) (sym r) b, ap (λ x. S.step x l) r)
  goes_on p q (k ∷ w) l (x, y, r) a b = (x, y, goes_on (S.step p k) q w l r a b)

  -- What holds of the start and passes on by steps holds of what is reached.
  pub passes_on : (Good : A → Type 0) → ((p : A) (l : ℕ) → Good p → Memᴰ l S.labels → S.live (S.step p l) ≡ true → Good (S.step p l))
      → (p q : A) (w : List ℕ) → Good p → Goes S p w q → Good q
  passes_on Good f p q [] g r = subst Good r g
  passes_on Good f p q (l ∷ w) g (a, b, r) = passes_on Good f (S.step p l) q w (f p l g a b) r

  -- The rows after the moves of the first i.
  pub record Expanded (i : ℕ) (rows : List A) : Type 0 where
    pub built : rows ≡ visits S (S.start ∷ []) (moves_upto S rows i)
    pub reached : (p : A) → Memᴰ p rows → Reached S p
    pub started : i ≤ length rows

  abbrev pub Complete : List A → Type 0
  Complete rows = Expanded (length rows) rows

  module _ (t : Tests S.same) where
    expanded : (i : ℕ) (rows : List A) → Expanded i rows → i < length rows → Expanded (suc i) (expand S rows i)
    unfolding expand
    expanded i rows g b = record { built = built'; reached = λ p n. come p (visits-of S t rows (moves_from S i (place_at S rows i)) n); started = begun }
      where
        come : (p : A) → Memᴰ p rows ⊎ ((m : Move A) × Memᴰ m (moves_from S i (place_at S rows i)) × (p ≡ m.goal)) → Reached S p
        come p (inl n) = g.reached p n
        come p (inr (m, n, e)) =
            let q = place_at S rows i in
            let z = moves_of i q n in
            let (w, r) = g.reached q (get_d_mem rows i S.start b) in
            let k : S.live (S.step q m.label) ≡ true = ap S.live (sym z.goal-is) ∙ z.lives in
            (w ++ (m.label ∷ []), subst (Goes S S.start (w ++ (m.label ∷ []))) (sym (e ∙ z.goal-is)) (goes_on S.start q w m.label r z.label_in k))

        built' : visits S rows (moves_from S i (place_at S rows i)) ≡ visits S (S.start ∷ []) (moves_upto S (visits S rows (moves_from S i (place_at S rows i))) (suc i))
        built' =
            let (a, e) = visits-more S t rows (moves_from S i (place_at S rows i)) in
            ap (λ l. visits S l (moves_from S i (place_at S rows i))) g.built
            ∙ (sym (visits_append S t (S.start ∷ []) (moves_upto S rows i) (moves_from S i (place_at S rows i)))
            ∙ ap (visits S (S.start ∷ [])) (sym (upto_next rows a i b) ∙ ap (λ l. moves_upto S l (suc i)) (sym e)))

        begun : suc i ≤ length (visits S rows (moves_from S i (place_at S rows i)))
        begun = let (a, e) = visits-more S t rows (moves_from S i (place_at S rows i)) in omega (arith, ap length e, length-append rows a)

    -- What the search leaves is the rows after some moves, and after all if they are few enough.
    abbrev Left : ℕ → ℕ → List A → Type 0
    Left i n rows = (j : ℕ) × Expanded j rows × (length rows ≤ i + n → j ≡ length rows)

    searched : (n i : ℕ) (rows : List A) → Expanded i rows → Left i n (search S n i rows)
    unfolding search
    searched zero i rows g = (i, g, λ b. omega (arith, g.started))
    searched (suc n) i rows g = case (ltb i (length rows)) refl (λ h. searched n (suc i) (expand S rows i) (expanded i rows g h))
      where
        case : (c : Bool) → ltb i (length rows) ≡ c → (i < length rows → Left (suc i) n (search S n (suc i) (expand S rows i))) → Left i (suc n) (cond c (search S n (suc i) (expand S rows i)) rows)
        case true e h = let (j, x, y) = h (ltb-true i (length rows) e) in (j, x, λ b. y (omega arith))
        case false e h = (i, g, λ b. omega (arith, g.started, ltb-false i (length rows) e))

    starting : Expanded 0 (S.start ∷ [])
    unfolding moves_upto visits
    starting = record { built = refl; reached = λ p n. ([], sym (Memᴰ.eq_of_singleton n)); started = omega arith }

    pub found_expanded : (limit : ℕ) → (j : ℕ) × Expanded j (found S limit)
    unfolding found
    found_expanded limit = let (j, x, y) = searched limit 0 (S.start ∷ []) starting in (j, x)

    pub found_complete : (limit : ℕ) → length (found S limit) ≤ limit → Complete (found S limit)
    unfolding found
    found_complete limit b =
        let (j, x, y) = searched limit 0 (S.start ∷ []) starting in
        let z = y (omega arith) in
        subst (λ (k : ℕ). Expanded k (search S limit 0 (S.start ∷ []))) z x
