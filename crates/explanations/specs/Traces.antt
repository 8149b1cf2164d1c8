-- 01: "The rows and edges that finished building leaves in the lent places trace the first n steps of a run".
use Rattle.std.specs.Prelude.{◌≡◌, List, ℕ, suc, ◌≤◌, ◌<◌}
use Rattle.lts.specs.Steps.{Step}
use Rattle.automaton.specs.Bytes.{row_state, row_final, edge_at}
use Rattle.automaton.specs.Build.{Counts}

-- "if there are n + 1 listed rows, counted from 0, the same row allowed again": row k is the k-th, for k up to n.
pub record Traces (c : Counts) (rows edges : List ℕ) (r : ℕ → Step) (n : ℕ) : Type 0 where
  pub row : ℕ → ℕ
  pub listed : (k : ℕ) → k ≤ n → row k < c.rows
  -- "the first is row 0"
  pub first : row 0 ≡ 0
  -- "the last is final"
  pub last : row_final rows (row n) ≡ 1
  -- "the k-th has the state that step k leaves"
  pub states : (k : ℕ) → k ≤ n → row_state rows (row k) ≡ (r k).from
  -- "for k below n a listed edge with step k's label leads from the k-th to the next"
  pub leads : (k : ℕ) → k < n → (j : ℕ) × (j < c.edges) × (edge_at edges j ≡ record { row = row k; label = (r k).label; target = row (suc k) })
