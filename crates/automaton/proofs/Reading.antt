-- The words that a listing reads, and those that the test of words accepts, are those by which the automaton walks to a final position.
use mathlib.Core.Path.{◌≡◌, refl, sym, ap, ◌∙◌, subst, subst₂}
use mathlib.Core.Logic.{◌⊎◌, inl, inr, ◌↔◌}
use mathlib.Core.Bool.{Bool, true, false, ◌&&◌}
use mathlib.Core.List.{List, [], ◌∷◌, Memᴰ}
use Prim.Native.Nat.{ℕ, ◌<◌, ◌≤◌}
use native.Mathlib.Omega.{arith}
use borrow.Author.Tests.{eqb-true, eq-eqb}
use Rattle.lts.specs.Lists.{any_of}
use Rattle.lts.specs.Steps.{Step, Table, IsStep}
use Rattle.lts.specs.inner.Steps.{steps_from}
use Rattle.lts.specs.inner.Range.{InRange}
use Rattle.lts.proofs.Booleans.{and-true-of, and-true-to}
use Rattle.lts.proofs.Lists.{some_of, some_to}
use Rattle.lts.proofs.StepsFrom.{steps_are}
use Rattle.actl.specs.Formulas.{Formula, size, class_of}
use Rattle.actl.proofs.Classes.{HasClass}
use Rattle.automaton.specs.Witnesses.{Witness, Counterexample}
use Rattle.automaton.specs.Places.{Final}
use Rattle.automaton.specs.Positions.{Position, at, root_at, Joins, Reached, begin, onward, Walk, stop, go, CanFinish}
use Rattle.automaton.specs.Listing.{Edge, Listing}
use Rattle.automaton.specs.inner.Search.{listing, final, targets, on_label}
use Rattle.automaton.specs.Listed.{row_at, placed, IsRow, Listed}
use Rattle.automaton.specs.inner.Words.{Reads, ends, reads, Accepts, accepts_from, accepts}
use Rattle.automaton.proofs.PathWords.{WordOf, words-of_witnesses, words-of_counterexamples}
use Rattle.automaton.proofs.Tests.{final-is, targets_of_lem, targets-to, leads-inside}
use Rattle.automaton.proofs.Finishing.{step_finishes}
use Rattle.automaton.proofs.Moves.{leaving}
use Rattle.automaton.proofs.Rows.{reached_finishes}
use Rattle.automaton.proofs.Listed.{listing-listed}

module _ (t : Table) (F : Formula) (L : Listing) (h : Listed t F L) where
  -- Row i is the position p.
  pub record RowFor (p : Position) : Type 0 where
    pub row : ℕ
    pub is_row : IsRow L row
    pub there : placed L row ≡ p

  pub row_for : {p : Position} → Reached t F p → CanFinish t F p → RowFor p
  row_for begin u = record { row = 0; is_row = h.some_row_lem; there = h.first }
  row_for (onward {p} {q} {l} r j) u = let (i, b, e) = h.row_to q (p, l, r, j) u in record { row = i; is_row = b; there = e }

  -- A step between reached positions is listed, if the second can finish.
  pub edge-listed : {p q : Position} (l : ℕ) → Reached t F p → Joins t F p l q → CanFinish t F q → (a : RowFor p) (b : RowFor q)
      → Memᴰ (record { row = a.row; label = l; target = b.row }) L.edges
  edge-listed l r j u a b =
      h.edge_to (record { row = a.row; label = l; target = b.row }) a.is_row b.is_row
      (subst₂ (λ x y. Joins t F x l y) (sym a.there) (sym b.there) j) (reached_finishes r (step_finishes j u))

  walk_of : {i : ℕ} {w : List ℕ} → Reads L i w → Walk t F (placed L i) w
  walk_of {i} (ends b e) = stop ((h.marked i b).0 e)
  walk_of {i} (reads {j} {l} m u) = let a = h.edge_of_lem (record { row = i; label = l; target = j }) m in go a.2 (walk_of u)

  walk_to : {p : Position} {w : List ℕ} → Reached t F p → Walk t F p w → (a : RowFor p) → Reads L a.row w
  walk_to {p} r (stop e) a = ends a.is_row ((h.marked a.row a.is_row).1 (subst (λ (q : Position). Final F q.place) (sym a.there) e))
  walk_to r (go {l} {w} j u) a =
      let b = row_for (onward r j) (w, u) in
      reads (edge-listed l r j (w, u) a b) (walk_to (onward r j) u b)

  pub listed-words : (w : List ℕ) → Accepts L w ↔ Walk t F (root_at t) w
  listed-words w = (
    λ u. subst (λ (p : Position). Walk t F p w) h.first (walk_of u),
    λ u. walk_to begin u (record { row = 0; is_row = h.some_row_lem; there = h.first }),
  )

module _ (t : Table) (F : Formula) (r : InRange t) (c : HasClass F) (w : List ℕ) where
  pub listing-words : Accepts (listing t F) w ↔ Walk t F (root_at t) w
  listing-words = listed-words t F (listing t F) (listing-listed t F r c) w

  pub listing-of_witnesses : class_of F ≡ 1 → Accepts (listing t F) w ↔ WordOf t (Witness F) w
  listing-of_witnesses e = let a = words-of_witnesses t F w e in (λ d. a.1 (listing-words.0 d), λ d. listing-words.1 (a.0 d))

  pub listing-of_counterexamples : class_of F ≡ 2 → Accepts (listing t F) w ↔ WordOf t (Counterexample F) w
  listing-of_counterexamples e = let a = words-of_counterexamples t F w e in (λ d. a.1 (listing-words.0 d), λ d. listing-words.1 (a.0 d))

-- The test of words.
module _ (t : Table) (F : Formula) where
  abbrev goes : List ℕ → ℕ → ℕ → Step → Bool
  goes w k l st = any_of (λ q. accepts_from t F w (at q st.to)) (targets F k l)

  pub accepts_from-of : (w : List ℕ) (p : Position) → p.place ≤ size F → accepts_from t F w p ≡ true → Walk t F p w
  unfolding accepts_from
  accepts_from-of [] p b e = stop ((final-is F p.place b).0 e)
  accepts_from-of (l ∷ w) p b e =
      let (st, m, d) = some_of (λ st. on_label l st && goes w p.place l st) (steps_from t p.state) e in
      let (o, a) = and-true-of (on_label l st) (goes w p.place l st) d in
      let (q, n, x) = some_of (λ q. accepts_from t F w (at q st.to)) (targets F p.place l) a in
      let j = targets_of_lem F p.place l n in
      let (s, i) = (steps_are t p.state st).0 m in
      go (subst (λ (y : ℕ). IsStep t (record { from = p.state; label = y; to = st.to })) (eqb-true st.label l o) (leaving t s i), j)
      (accepts_from-of w (at q st.to) (leads-inside j) x)

  pub accepts_from-to : {p : Position} {w : List ℕ} → Walk t F p w → p.place ≤ size F → accepts_from t F w p ≡ true
  unfolding accepts_from
  accepts_from-to {p} (stop e) b = (final-is F p.place b).1 e
  accepts_from-to (go {p} {q} {l} {w} (st, j) u) b =
      let x : Step = record { from = p.state; label = l; to = q.state } in
      some_to (λ st. on_label l st && goes w p.place l st) (steps_from t p.state) {x = x} ((steps_are t p.state x).1 (refl, st))
      (and-true-to (on_label l x) (goes w p.place l x) (eq-eqb l l refl)
      (some_to (λ y. accepts_from t F w (at y q.state)) (targets F p.place l) (targets-to F p.place l j) (accepts_from-to u (leads-inside j))))

  pub accepts-is : (w : List ℕ) → (accepts t F w ≡ true) ↔ Walk t F (root_at t) w
  accepts-is w = (accepts_from-of w (root_at t) (omega arith), λ u. accepts_from-to u (omega arith))
