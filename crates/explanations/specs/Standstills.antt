-- 02: "A standstill must be seen." An edge's label is 99 exactly if the state of its row has no exit.
use Rattle.std.specs.Prelude.{◌≡◌, ◌↔◌, List, ℕ, ◌<◌}
use Rattle.lts.specs.Steps.{Table, Exitless}
use Rattle.lts.specs.Idle.{idle_label}
use Rattle.automaton.specs.Bytes.{row_state, edge_at}
use Rattle.automaton.specs.Build.{Counts}

abbrev pub StandstillsSeen : Table → Counts → List ℕ → List ℕ → Type 0
StandstillsSeen t c rows edges = (j : ℕ) → j < c.edges → ((edge_at edges j).label ≡ idle_label) ↔ Exitless t (row_state rows (edge_at edges j).row)
