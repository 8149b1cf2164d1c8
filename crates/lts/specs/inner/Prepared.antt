-- The executable twin of `LeftByReading` (../Prepared.antt): `prepared-left` (proofs/Laws/Prepared.antt) makes them equal.
use Rattle.std.specs.Prelude.{cond, List, map, ℕ, ◌+◌, ◌*◌, get_or, take, drop}
use Rattle.std.proofs.Math.Option.{Option, none, some}
use Rattle.lts.specs.inner.Sizes.{head_length, transitions_at}
use Rattle.lts.specs.Sizes.{name_slot_length, transition_length, table_length}
use Rattle.columns.specs.Bytes.{same_bytes}
use Rattle.lts.specs.inner.Lists.{up_from}
use Rattle.lts.specs.Steps.{Step, Table}
use Rattle.lts.specs.TableText.{table_text}
use Rattle.lts.specs.Reply.{Reply, accepted, refusal}
use Rattle.lts.specs.Reading.{read_table}
use Rattle.lts.specs.Prepared.{table_bytes}

-- What bytes say: their counts, names and transitions.
abbrev pub byte_at : List ℕ → ℕ → ℕ
byte_at b i = get_or b i 0

abbrev pub name_at : List ℕ → ℕ → List ℕ
name_at b k = take (byte_at b (head_length + k * name_slot_length)) (drop (head_length + 1 + k * name_slot_length) b)

abbrev pub transition_at : List ℕ → ℕ → Step
transition_at b k = record {
  from = byte_at b (transitions_at + k * transition_length);
  label = byte_at b ((transitions_at + 1) + k * transition_length);
  to =
      byte_at b ((transitions_at + 2) + k * transition_length);
}

unfoldable pub table_in : List ℕ → Table
table_in b = record {
  states = byte_at b 0 + byte_at b 1 * 256;
  names = map (name_at b) (up_from 0 (byte_at b 2));
  transitions = map (transition_at b) (up_from 0 (byte_at b 3 + byte_at b 4 * 256));
  start = byte_at b 5;
}

-- The same, as a test: the bytes are those that reading the text of the table in them leaves.
abbrev pub left_by : List ℕ → Reply Table → Option Table
left_by b (accepted t) = cond (same_bytes (take table_length b) (table_bytes t)) (some t) none
left_by b (refusal number figure) = none

unfoldable pub prepared_table : List ℕ → Option Table
prepared_table b = left_by b (read_table (table_text (table_in b)))
