-- The rows and edges of a listing trace the same beginnings of runs as the automaton's positions do.
use mathlib.Core.Path.{◌≡◌, refl, sym, ap, ◌∙◌, subst, subst₂}
use mathlib.Core.Logic.{◌⊎◌, inl, inr, ◌↔◌}
use mathlib.Core.Bool.{true}
use mathlib.Core.List.{List, [], ◌∷◌, Memᴰ}
use Prim.Native.Nat.{ℕ, zero, suc, ◌+◌, ◌-◌, ◌<◌, ◌≤◌}
use native.Mathlib.Decide.{dec_le}
use native.Mathlib.Omega.{arith}
use Rattle.lts.specs.Steps.{Step, Table}
use Rattle.actl.specs.Formulas.{Formula}
use Rattle.automaton.specs.Places.{Final}
use Rattle.automaton.specs.Positions.{Position, at, root_at, Joins, Reached, begin, onward, stop, CanFinish}
use Rattle.automaton.specs.Listing.{Edge, Listing}
use Rattle.automaton.specs.Listed.{row_at, placed, IsRow, Listed}
use Rattle.automaton.proofs.Finishing.{step_finishes}
use Rattle.automaton.proofs.Reading.{RowFor, row_for, edge-listed}
use Rattle.explanations.specs.inner.Positions.{PositionsTrace}

-- 01's tracing, by the rows and edges of a listing instead of their bytes.
pub record RowsTrace (L : Listing) (r : ℕ → Step) (n : ℕ) : Type 0 where
  pub row : ℕ → ℕ
  pub listed : (k : ℕ) → k ≤ n → IsRow L (row k)
  pub first : row 0 ≡ 0
  pub last : (row_at L (row n)).final ≡ true
  pub states : (k : ℕ) → k ≤ n → (row_at L (row k)).state ≡ (r k).from
  pub leads : (k : ℕ) → k < n → Memᴰ (record { row = row k; label = (r k).label; target = row (suc k) }) L.edges

module _ (t : Table) (F : Formula) (L : Listing) (h : Listed t F L) (r : ℕ → Step) (n : ℕ) where
  module _ (z : PositionsTrace t F r n) where
    abbrev p : ℕ → Position
    p = z.position

    finishes_at : (d k : ℕ) → d + k ≡ n → CanFinish t F (p k)
    finishes_at zero k e = let d : n ≡ k = omega arith in ([], stop (subst (λ (j : ℕ). Final F (p j).place) d z.last))
    finishes_at (suc d) k e = step_finishes (z.joins k (omega arith)) (finishes_at d (suc k) (omega arith))

    reached-at : (k : ℕ) → k ≤ n → Reached t F (p k)
    reached-at zero b = subst (Reached t F) (sym z.first) begin
    reached-at (suc k) b = onward (reached-at k (omega arith)) (z.joins k (omega arith))

    row-at : (k : ℕ) → k ≤ n → RowFor t F L h (p k)
    row-at k b = row_for t F L h (reached-at k b) (finishes_at (n - k) k (omega arith))

    -- The k-th row; what stands past n does not matter.
    chosen : (k : ℕ) → Dec (k ≤ n) → ℕ
    chosen k (yes b) = (row-at k b).row
    chosen k (no m) = 0

    abbrev rows : ℕ → ℕ
    rows k = chosen k (dec_le k n)

    chosen_for : (k : ℕ) (d : Dec (k ≤ n)) → k ≤ n → IsRow L (chosen k d) × (placed L (chosen k d) ≡ p k)
    unfolding chosen
    chosen_for k (yes b) c = ((row-at k b).is_row, (row-at k b).there)
    chosen_for k (no m) c = absurd (m c)

    abbrev row_is : (k : ℕ) (b : k ≤ n) → RowFor t F L h (p k)
    row_is k b = let c = chosen_for k (dec_le k n) b in record { row = rows k; is_row = c.0; there = c.1 }

    rows_trace : RowsTrace L r n
    rows_trace = record {
      row = rows;
      listed = λ k b. (row_is k b).is_row;
      first = let c = row_is 0 (omega arith) in h.once (rows 0) 0 c.is_row h.some_row_lem (c.there ∙ (z.first ∙ sym h.first));
      last = let c = row_is n (omega arith) in (h.marked (rows n) c.is_row).1 (subst (λ (q : Position). Final F q.place) (sym c.there) z.last);
      states = λ k b. ap (λ (q : Position). q.state) (row_is k b).there ∙ z.states k b;
      leads = λ k b.
          edge-listed t F L h (r k).label (reached-at k (omega arith)) (z.joins k b) (finishes_at (n - suc k) (suc k) (omega arith))
          (row_is k (omega arith)) (row_is (suc k) (omega arith));
    }

  positions_trace : RowsTrace L r n → PositionsTrace t F r n
  positions_trace z = record {
    position = λ k. placed L (z.row k);
    first = ap (placed L) z.first ∙ h.first;
    last = (h.marked (z.row n) (z.listed n (omega arith))).0 z.last;
    states = z.states;
    joins = λ k b. (h.edge_of_lem (record { row = z.row k; label = (r k).label; target = z.row (suc k) }) (z.leads k b)).2;
  }

  pub rows_trace_positions : PositionsTrace t F r n ↔ RowsTrace L r n
  rows_trace_positions = (rows_trace, positions_trace)
