-- What 01 asks of a table: its ranges and its orders.
use Rattle.std.specs.Prelude.{◌≡◌, ◌⊎◌, true, ℕ, ◌≤◌, ◌<◌, length}
use mathlib.Core.List.{List, Memᴰ}
use Rattle.lts.specs.Sizes.{most_states, most_labels, most_transitions}
use Rattle.lts.specs.Lists.{Rising}
use Rattle.lts.specs.Steps.{Step, Table, labels}
use Rattle.lts.specs.Names.{is_name}

-- 01: "Lines rise strictly by (from, label, to)."
abbrev pub Below : Step → Step → Type 0
Below a b = (a.from < b.from) ⊎ ((a.from ≡ b.from) × ((a.label < b.label) ⊎ ((a.label ≡ b.label) × (a.to < b.to))))

abbrev pub Differ : List ℕ → List ℕ → Type 0
Differ a b = a ≡ b → ⊥

-- 01: "From and to are below states, label is at most labels."
pub record StepInRange (t : Table) (st : Step) : Type 0 where
  pub leaves : st.from < t.states
  pub labelled : st.label ≤ labels t
  pub enters : st.to < t.states

-- 01: "states (1 to 256), labels (0 to 40), transitions (0 to 1,024), start (below states)"
pub record InRange (t : Table) : Type 0 where
  pub some_state : 1 ≤ t.states
  pub few_states : t.states ≤ most_states
  pub few_labels : labels t ≤ most_labels
  pub few_transitions : length t.transitions ≤ most_transitions
  pub starts : t.start < t.states
  pub named : (n : List ℕ) → Memᴰ n t.names → is_name n ≡ true
  pub names_differ : Rising Differ t.names
  pub steps_in_range : (st : Step) → Memᴰ st t.transitions → StepInRange t st
  pub steps_rise : Rising Below t.transitions
