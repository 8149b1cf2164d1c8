-- The verdict follows from what building wrote: something explains it exactly if there is an edge or the root's row is final.
use mathlib.Core.Path.{◌≡◌, refl, sym, ap, ◌∙◌, subst, subst₂}
use mathlib.Core.Logic.{◌⊎◌, inl, inr}
use mathlib.Core.Bool.{Bool, true, false, cond, not as negate, ◌||◌}
use mathlib.Core.List.Memᴰ
use mathlib.Core.List.{List, [], ◌∷◌, Memᴰ}
use Prim.Native.Nat.{ℕ, ◌≤◌, ◌<◌}
use native.Mathlib.Omega.{arith}
use lib.Dec.{eqb, ltb}
use lib.ListN.{length}
use borrow.Author.Tests.{ltb-true, lt-ltb}
use Rattle.lts.specs.Steps.{Table}
use Rattle.lts.specs.inner.Range.{InRange}
use Rattle.lts.specs.Reply.{overwritten}
use Rattle.lts.proofs.Booleans.{or-true-of, or-true-left, or_true_right, same_truth}
use Rattle.lts.proofs.Lists.{get_d_mem}
use Rattle.actl.specs.Formulas.{Formula, tru, not, or, ex, ax, eu, eu_then, class_of}
use Rattle.actl.proofs.Classes.{HasClass}
use Rattle.satisfaction.specs.inner.Holds.{holds, verdict}
use Rattle.automaton.specs.Places.{Final}
use Rattle.automaton.specs.Positions.{Position, root_at, Joins, begin, stop, go, CanFinish}
use Rattle.automaton.specs.Listing.{Listing}
use Rattle.automaton.specs.Listed.{Listed, row_at}
use Rattle.automaton.specs.Bytes.{bit_of, rows_bytes, row_final}
use Rattle.automaton.specs.inner.Search.{explains, can_finish, node_at, listing}
use Rattle.automaton.proofs.Bytes.{no_edge, final_in}
use Rattle.automaton.proofs.Finishing.{can_finish-is}
use Rattle.automaton.proofs.Listed.{listing-listed}
use Rattle.explaining.specs.inner.Told.{verdict_told}

some_member : {A : Type 0} {x : A} (l : List A) → Memᴰ x l → 0 < length l
some_member [] n = absurd (Memᴰ.not-nil n)
some_member (y ∷ l) n = omega arith

-- Of any listing that is as 01 says.
module _ {t : Table} {F : Formula} {L : Listing} (k : Listed t F L) where
  abbrev Seen : Type 0
  Seen = (0 < length L.edges) ⊎ ((row_at L 0).final ≡ true)

  root-place : (row_at L 0).place ≡ 0
  root-place = ap (λ (p : Position). p.place) k.first

  finish-seen : CanFinish t F (root_at t) → Seen
  finish-seen ([], stop e) = inr ((k.marked 0 k.some_row_lem).1 (subst (Final F) (sym root-place) e))
  finish-seen (l ∷ w, go {q} j u) =
      let (i, b, d) = k.row_to q (root_at t, l, begin, j) (w, u) in
      let joined = subst₂ (λ (p g : Position). Joins t F p l g) (sym k.first) (sym d) j in
      inl (some_member L.edges (k.edge_to (record { row = 0; label = l; target = i }) k.some_row_lem b joined (l ∷ w, go j u)))

  seen_finishes : Seen → CanFinish t F (root_at t)
  seen_finishes (inl h) = (k.edge_of_lem _ (get_d_mem L.edges 0 no_edge h)).3
  seen_finishes (inr e) = ([], stop (subst (Final F) root-place ((k.marked 0 k.some_row_lem).0 e)))

pub first-node : (F : Formula) → node_at F 0 ≡ F
first-node tru = refl
first-node (not f) = refl
first-node (or f g) = refl
first-node (ex c f) = refl
first-node (ax c f) = refl
first-node (eu a f) = refl
first-node (eu_then a b f) = refl

-- What explains by the class is told back by the class.
explains_back : (class : ℕ) (h : Bool) → explains class (explains class h) ≡ h
explains_back class h = by (eqb class 1) h
  where
    by : (a h : Bool) → cond a (cond a h (negate h)) (negate (cond a h (negate h))) ≡ h
    by true h = refl
    by false true = refl
    by false false = refl

bit_tested : (b : Bool) → eqb (bit_of b) 1 ≡ b
bit_tested true = refl
bit_tested false = refl

module _ (t : Table) (F : Formula) (w : InRange t) (c : HasClass F) where
  abbrev L : Listing
  L = listing t F

  abbrev shown : Bool
  shown = ltb 0 (length L.edges) || (row_at L 0).final

  root_finishes : shown ≡ can_finish t F (root_at t)
  root_finishes =
      let k = listing-listed t F w c in
      let is = can_finish-is t F c (root_at t) (omega arith) in
      let edge = ltb 0 (length L.edges) in
      let mark = (row_at L 0).final in
      same_truth shown (can_finish t F (root_at t)) (λ e. is.1 (seen_finishes k (of (or-true-of edge mark e)))) (λ e. to (finish-seen k (is.0 e)))
    where
      of : (ltb 0 (length L.edges) ≡ true) ⊎ ((row_at L 0).final ≡ true) → (0 < length L.edges) ⊎ ((row_at L 0).final ≡ true)
      of (inl e) = inl (ltb-true 0 (length L.edges) e)
      of (inr e) = inr e

      to : (0 < length L.edges) ⊎ ((row_at L 0).final ≡ true) → shown ≡ true
      to (inl h) = or-true-left (ltb 0 (length L.edges)) (row_at L 0).final (lt-ltb 0 (length L.edges) h)
      to (inr e) = or_true_right (ltb 0 (length L.edges)) (row_at L 0).final e

  root-explains : can_finish t F (root_at t) ≡ explains (class_of F) (holds t F t.start)
  unfolding can_finish
  root-explains = ap (λ (f : Formula). explains (class_of f) (holds t f t.start)) (first-node F)

  told : bit_of (explains (class_of F) shown) ≡ verdict t F
  told = ap (λ b. bit_of (explains (class_of F) b)) (root_finishes ∙ root-explains) ∙ ap bit_of (explains_back (class_of F) (holds t F t.start))

  pub some_row_lem : 1 ≤ length L.rows
  some_row_lem = (listing-listed t F w c).some_row_lem

  -- In the lent places.
  pub verdict-told : (rest : List ℕ) → verdict_told (length L.edges) (row_final (overwritten (rows_bytes L) rest) 0) (class_of F) ≡ verdict t F
  verdict-told rest =
      let mark = final_in L _ [] 0 some_row_lem in
      ap (λ m. bit_of (explains (class_of F) (ltb 0 (length L.edges) || m))) (ap (λ n. eqb n 1) mark ∙ bit_tested (row_at L 0).final) ∙ told
