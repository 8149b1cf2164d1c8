-- The prepared bytes of a table (docs/FORMATS.md), and which bytes are some table's.
use Rattle.std.specs.Prelude.{◌≡◌, List, [], ◌∷◌, ◌++◌, ℕ, ◌*◌, length, take}
use Rattle.std.proofs.Math.Option.{Option, none, some}
use Rattle.lts.specs.Sizes.{most_labels, most_transitions, name_slot_length, transition_length, table_length}
use Rattle.columns.specs.Bytes.{padded, low_first}
use Rattle.lts.specs.Lists.{bind}
use Rattle.lts.specs.Steps.{Step, Table, labels}
use Rattle.lts.specs.Reply.{Reply, accepted, refusal}
use Rattle.lts.specs.Reading.{read_table}

-- A name: its length, its bytes, zeros.
abbrev pub name_slot : List ℕ → List ℕ
name_slot n = padded name_slot_length (length n ∷ n)

abbrev pub transition_slot : Step → List ℕ
transition_slot st = st.from ∷ st.label ∷ st.to ∷ []

abbrev pub name_slots : Table → List ℕ
name_slots t = padded (most_labels * name_slot_length) (bind name_slot t.names)

abbrev pub transition_slots : Table → List ℕ
transition_slots t = padded (most_transitions * transition_length) (bind transition_slot t.transitions)

unfoldable pub table_bytes : Table → List ℕ
table_bytes t =
    low_first 2 t.states ++ (labels t ∷ (low_first 2 (length t.transitions) ++ (t.start ∷ (name_slots t ++ transition_slots t))))

-- 01: "prepared table bytes that no accepted reading leaves" are refused: some text is read to a table that has these bytes.
abbrev pub LeftByReading : List ℕ → Type 0
LeftByReading b = (text : List ℕ) × (t : Table) × (read_table text ≡ accepted t) × (take table_length b ≡ table_bytes t)

-- An entry over a prepared table: 10 with 0 if there is none in the bytes.
abbrev pub with_table : {A : Type 0} → Option Table → (Table → Reply A) → Reply A
with_table none next = refusal 10 0
with_table (some t) next = next t
