-- The bytes of a prepared table with another start are those of the table with that start.
use mathlib.Core.Path.{◌≡◌, refl, ap, ◌∙◌}
use mathlib.Core.Logic.{◌↔◌}
use mathlib.Core.List.{List}
use mathlib.Core.Option.{some}
use Prim.Native.Nat.{ℕ, ◌<◌}
use native.Mathlib.Omega.{arith}
use lib.ListN.{set, take}
use lib.Seq.{take-set-lt}
use Rattle.lts.specs.Sizes.{table_length}
use Rattle.lts.specs.Steps.{Table}
use Rattle.lts.specs.Prepared.{table_bytes}
use Rattle.lts.specs.inner.Prepared.{prepared_table}
use Rattle.lts.specs.inner.Range.{InRange}
use Rattle.lts.proofs.Laws.Prepared.{prepared-of, prepared-to}
use Rattle.starts.specs.Starts.{starting_at, start_byte, with_start}

start_in_range : (t : Table) (s : ℕ) → InRange t → s < t.states → InRange (starting_at t s)
start_in_range t s r h = record {
  some_state = r.some_state;
  few_states = r.few_states;
  few_labels = r.few_labels;
  few_transitions = r.few_transitions;
  starts = h;
  named = r.named;
  names_differ = r.names_differ;
  steps_in_range = λ st m. let k = r.steps_in_range st m in record { leaves = k.leaves; labelled = k.labelled; enters = k.enters };
  steps_rise = r.steps_rise;
}

start-bytes : (t : Table) (s : ℕ) → set (table_bytes t) start_byte s ≡ table_bytes (starting_at t s)
unfolding table_bytes
start-bytes t s = refl

pub prepared_again : (table : List ℕ) (t : Table) (s : ℕ) → prepared_table table ≡ some t → s < t.states
    → prepared_table (with_start table s) ≡ some (starting_at t s)
prepared_again table t s e h =
    let p = prepared-of table t e in
    prepared-to (with_start table s) (starting_at t s) (start_in_range t s p.0 h)
    (take-set-lt table_length table start_byte s (omega arith) ∙ ap (λ l. set l start_byte s) p.1 ∙ start-bytes t s)
