-- The rows and edges of a listing: its words, and that there is no trap among them.
use mathlib.Core.Path.{◌≡◌, refl, sym, ap, ◌∙◌, subst}
use mathlib.Core.Logic.{◌⊎◌, inl, inr}
use mathlib.Core.Bool.{Bool, true, false, true≢false}
use mathlib.Core.List.{List, [], ◌∷◌, map}
use Prim.Native.Nat.{ℕ, ◌<◌}
use native.Mathlib.Omega.{arith}
use lib.ListN.{length, get_or, length-map, get_or-map}
use Rattle.lts.specs.Steps.{Table}
use Rattle.lts.specs.inner.Steps.{alphabet}
use Rattle.lts.specs.inner.Range.{InRange}
use Rattle.lts.proofs.StepsFrom.{step_in_alphabet, alphabet-rising}
use Rattle.actl.specs.Formulas.{Formula}
use Rattle.actl.proofs.Classes.{HasClass}
use Rattle.automaton.specs.Places.{Final}
use Rattle.automaton.specs.Positions.{Position, root_at, Reached, begin, onward, Entered, Walk, stop, go, CanFinish}
use Rattle.automaton.specs.Listing.{Row, Listing}
use Rattle.automaton.specs.inner.Search.{can_finish}
use Rattle.automaton.specs.Listed.{row_at, placed, IsRow, Listed}
use Rattle.automaton.specs.inner.Words.{Reads as ReadsListing, ends, reads, Accepts as AcceptsListing}
use Rattle.automaton.proofs.Finishing.{can_finish-is}
use Rattle.automaton.proofs.Reading.{RowFor, row_for, edge-listed}
use Rattle.automaton.proofs.Unique.{bare-row}
use Rattle.deterministic.specs.Automata.{Automaton, count, Reads, Accepts, bare}
use Rattle.deterministic.specs.Smallest.{SameWords, CanFinish as Finishes}
use Rattle.deterministic.specs.inner.Subsets.{IsBuild}
use Rattle.deterministic.specs.Listings.{automaton_in}
use Rattle.deterministic.proofs.Subsets.{in_length}

module _ (L : Listing) where
  abbrev A : Automaton
  A = automaton_in L

  pub rows_are : count A ≡ length L.rows
  rows_are = length-map L.rows (λ (r : Row). r.final)

  pub mark-is : (i : ℕ) → get_or A.final i false ≡ (row_at L i).final
  mark-is i = get_or-map (λ (r : Row). r.final) L.rows i (record { place = 0; state = 0; final = false })

  reads_of : (i : ℕ) (w : List ℕ) → Reads A i w → ReadsListing L i w
  reads_of i [] h = ends (subst (λ (n : ℕ). i < n) rows_are (in_length A.final i h)) (sym (mark-is i) ∙ h)
  reads_of i (l ∷ w) (k, e, h) = reads e (reads_of k w h)

  reads-to : {i : ℕ} {w : List ℕ} → ReadsListing L i w → Reads A i w
  reads-to {i} (ends b e) = mark-is i ∙ e
  reads-to (reads {j} m u) = (j, m, reads-to u)

  pub build_words : SameWords (AcceptsListing L) (Accepts A)
  build_words w = (λ u. reads-to u, λ u. reads_of 0 w u)

module _ (t : Table) (F : Formula) (r : InRange t) (c : HasClass F) (L : Listing) (h : Listed t F L) where
  up : {i : ℕ} → IsRow L i → i < count (automaton_in L)
  up {i} b = subst (λ (n : ℕ). i < n) (sym (rows_are L)) b

  down : {i : ℕ} → i < count (automaton_in L) → IsRow L i
  down {i} b = subst (λ (n : ℕ). i < n) (rows_are L) b

  walks : {p : Position} {w : List ℕ} → Reached t F p → Walk t F p w → (a : RowFor t F L h p) → ReadsListing L a.row w
  walks {p} x (stop e) a = ends a.is_row ((h.marked a.row a.is_row).1 (subst (λ (q : Position). Final F q.place) (sym a.there) e))
  walks x (go {l} {w} j u) a =
      let b = row_for t F L h (onward x j) (w, u) in
      reads (edge-listed t F L h l x j (w, u) a b) (walks (onward x j) u b)

  finishing : CanFinish t F (root_at t) → (i : ℕ) → i < count (automaton_in L) → (w : List ℕ) × Reads (automaton_in L) i w
  finishing u i b = case (h.row_of_lem i (down b))
    where
      from : (p : Position) → placed L i ≡ p → Reached t F p → CanFinish t F p → (w : List ℕ) × Reads (automaton_in L) i w
      from p e x (w, k) = (w, reads-to L (walks x k (record { row = i; is_row = down b; there = e })))

      case : (placed L i ≡ root_at t) ⊎ (Entered t F (placed L i) × CanFinish t F (placed L i)) → (w : List ℕ) × Reads (automaton_in L) i w
      case (inl e) = from (root_at t) e begin u
      case (inr ((q, l, x, j), k)) = from (placed L i) refl (onward x j) k

  single : (l : List Row) → length l ≡ 1 → (get_or l 0 (record { place = 0; state = 0; final = false })).final ≡ false → map (λ (x : Row). x.final) l ≡ false ∷ []
  single [] e d = absurd (omega arith)
  single (x ∷ []) e d = ap (λ y. y ∷ []) d
  single (x ∷ y ∷ l) e d = absurd (omega arith)

  nothing : (CanFinish t F (root_at t) → ⊥) → automaton_in L ≡ bare
  nothing n =
      let (x, y, z) = bare-row t F L h n in
      let m = single L.rows x z in
      λ i. record { final = m i; edges = y i }

  pub is_build : IsBuild (alphabet t) (automaton_in L)
  is_build = record {
    well_formed = record {
      some_state = up h.some_row_lem;
      in_range = λ e m. let x = h.edge_of_lem e m in (up x.0, up x.1);
    };
    rising = alphabet-rising t r;
    labelled = λ e m. let x = h.edge_of_lem e m in step_in_alphabet t r x.2.0;
    no_trap = case (can_finish t F (root_at t)) refl;
  }
    where
      case : (b : Bool) → can_finish t F (root_at t) ≡ b → Finishes (automaton_in L) ⊎ (automaton_in L ≡ bare)
      case true e = inl (finishing ((can_finish-is t F c (root_at t) (omega arith)).0 e))
      case false e = inr (nothing (λ u. true≢false (sym ((can_finish-is t F c (root_at t) (omega arith)).1 u) ∙ e)))
