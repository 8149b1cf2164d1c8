-- What labelling the nodes of a prepared formula takes, writes and leaves: rows of 256 flags, a row for each node.
use Rattle.std.specs.Prelude.{◌≡◌, ◌⊎◌, Bool, List, ℕ, ◌+◌, ◌*◌, ◌≤◌, ◌<◌, length, get_or}
use Rattle.std.proofs.Math.Option.{some}
use Rattle.actl.specs.inner.Sizes.{node_positions}
use Rattle.lts.specs.Sizes.{most_states}
use Rattle.lts.specs.Steps.{Table, labels}
use Rattle.lts.specs.inner.Prepared.{table_in}
use Rattle.actl.specs.Formulas.{Formula, tru, size, nodes}
use Rattle.actl.specs.inner.Prepared.{prepared_formula}
use Rattle.satisfaction.specs.inner.Holds.{holds}
use Rattle.lts.specs.inner.HoldsTable.{HoldsTable}
use Rattle.table_steps.specs.inner.StepArray.{StepsOf}
use Rattle.actl.specs.inner.HoldsFormula.{HoldsFormula, ArmsEnd}
use Rattle.until_search.specs.inner.Flags.{flag_at, Flags, NodeFlags}
use Rattle.until_search.specs.inner.Links.{Linked}

-- Flags with the row of node k put in.
pub record RowPut (k : ℕ) (row flags flags' : List Bool) : Type 0 where
  pub places : length flags' ≡ node_positions
  pub inside : (s : ℕ) → s < most_states → flag_at flags' (k * most_states + s) ≡ flag_at row s
  pub outside : (i : ℕ) → (i < k * most_states) ⊎ (k * most_states + most_states ≤ i) → flag_at flags' i ≡ flag_at flags i

-- The rows of the nodes from k on.
pub record LabelledFrom (t : Table) (F : Formula) (k : ℕ) (flags : List Bool) : Type 0 where
  pub flag : (j s : ℕ) → k ≤ j → j < size F → s < t.states → flag_at flags (j * most_states + s) ≡ holds t (get_or (nodes F) j tru) s

-- The same of the formula in bytes, over the table in bytes.
pub record RowsFrom (table formula : List ℕ) (k : ℕ) (flags : List Bool) : Type 0 where
  pub places : length flags ≡ node_positions
  pub rows : (F : Formula) → prepared_formula (labels (table_in table)) formula ≡ some F → LabelledFrom (table_in table) F k flags

-- What the row of node k is found from: a prepared table and formula, their arrays, and the rows of the nodes behind k.
pub record ArmsLabelled (table steps firsts links formula ends : List ℕ) (flags : List Bool) (k : ℕ) : Type 0 where
  pub table_held : HoldsTable table
  pub steps_of : StepsOf (table_in table) steps firsts
  pub linked : Linked (table_in table) links
  pub formula_held : HoldsFormula (labels (table_in table)) formula
  pub arms_end : ArmsEnd (labels (table_in table)) formula ends
  pub inside : k < get_or formula 0 0
  pub rows_behind : RowsFrom table formula (k + 1) flags

-- The row of node k: where it holds.
pub record NodeRow (table formula : List ℕ) (k : ℕ) (row : List Bool) : Type 0 where
  pub found : (F : Formula) → prepared_formula (labels (table_in table)) formula ≡ some F
      → Flags (table_in table).states (holds (table_in table) (get_or (nodes F) k tru)) row

-- 01: what holds at every node of the prepared formula, at every state of the table.
pub record NodesLabelled (table formula : List ℕ) (flags : List Bool) : Type 0 where
  pub labelled : (F : Formula) → prepared_formula (labels (table_in table)) formula ≡ some F → NodeFlags (table_in table) F flags

-- The answer of the root at the start.
pub record AtStart (table formula : List ℕ) (answer : Bool) : Type 0 where
  pub answered : (F : Formula) → prepared_formula (labels (table_in table)) formula ≡ some F → answer ≡ holds (table_in table) F (table_in table).start
