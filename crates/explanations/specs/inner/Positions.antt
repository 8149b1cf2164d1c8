-- Positions that trace the first n steps of a run: 01's tracing, by positions instead of listed rows.
use Rattle.std.specs.Prelude.{◌≡◌, ℕ, suc, ◌≤◌, ◌<◌}
use Rattle.lts.specs.Steps.{Step, Table}
use Rattle.actl.specs.Formulas.{Formula}
use Rattle.automaton.specs.Places.{Final}
use Rattle.automaton.specs.Positions.{Position, root_at, Joins}

pub record PositionsTrace (t : Table) (F : Formula) (r : ℕ → Step) (n : ℕ) : Type 0 where
  pub position : ℕ → Position
  pub first : position 0 ≡ root_at t
  pub last : Final F (position n).place
  pub states : (k : ℕ) → k ≤ n → (position k).state ≡ (r k).from
  pub joins : (k : ℕ) → k < n → Joins t F (position k) (r k).label (position (suc k))
