-- Worked examples: the definitions of tables, run. 01's table M is read and written back, and damaged in every way that is refused.
use mathlib.Core.Path.{◌≡◌, refl}
use mathlib.Core.List.{List, [], ◌∷◌, ◌++◌, map}
use mathlib.Core.Option.{none, some}
use Prim.Native.Nat.{ℕ}
use Prim.Native.String.{String}
use lib.ListN.{length}
use Rattle.lts.specs.Sizes.{table_length}
use Rattle.columns.specs.Ascii.{ascii}
use Rattle.columns.specs.Columns.{column, digits_within}
use Rattle.lts.specs.Reply.{accepted, refusal}
use Rattle.lts.specs.Names.{find_from, lookup}
use Rattle.lts.specs.Directions.{neither, received, sent, label_direction}
use Rattle.lts.specs.Steps.{Step, Table}
use Rattle.lts.specs.inner.Steps.{steps_from, alphabet}
use Rattle.lts.specs.TableText.{table_text}
use Rattle.lts.specs.Text.{ended}
use Rattle.lts.specs.Reading.{read_table, read_table_with, read_labels_with, read_transitions}
use Rattle.lts.specs.Prepared.{table_bytes}
use Rattle.lts.specs.inner.Prepared.{table_in, prepared_table}

abbrev pub step : ℕ → ℕ → ℕ → Step
step s a t = record { from = s; label = a; to = t }

-- 01's table M.
abbrev pub M : Table
M = record {
  states = 3;
  names = ascii "req" ∷ ascii "ack" ∷ [];
  transitions = step 0 1 1 ∷ step 1 0 2 ∷ step 1 2 0 ∷ [];
  start = 0;
}

abbrev pub lines : List String → List ℕ
lines [] = []
lines (l ∷ rest) = ended (ascii l) ++ lines rest

abbrev pub M_lines : List ℕ
M_lines = lines ("     3     2     3     0" ∷ "     1 req" ∷ "     2 ack" ∷ "     0     1     1" ∷ "     1     0     2" ∷ "     1     2     0" ∷ [])

text-of_M : table_text M ≡ M_lines
unfolding table_text column digits_within
text-of_M = refl

M_is-read : read_table M_lines ≡ accepted M
unfolding read_table_with read_labels_with read_transitions column digits_within
M_is-read = refl

-- State 2 of M has no exit: its idle step. Its labels, as steps may carry them.
idle_of_M : steps_from M 2 ≡ step 2 99 2 ∷ []
unfolding steps_from
idle_of_M = refl

labels-of_M : alphabet M ≡ 0 ∷ 1 ∷ 2 ∷ 99 ∷ []
labels-of_M = refl

-- From state 0 silently to state 1, which has a written silent loop alone, and by a (1) to state 2, which has no exit.
abbrev pub resting : Table
resting = record {
  states = 3;
  names = ascii "a" ∷ [];
  transitions = step 0 0 1 ∷ step 0 1 2 ∷ step 1 0 1 ∷ [];
  start = 0;
}

written_loop : steps_from resting 1 ≡ step 1 0 1 ∷ []
unfolding steps_from
written_loop = refl

idle_beside_it : steps_from resting 2 ≡ step 2 99 2 ∷ []
unfolding steps_from
idle_beside_it = refl

prepared_M : prepared_table (table_bytes M) ≡ some M
unfolding prepared_table table_bytes table_in read_table_with read_labels_with read_transitions table_text column digits_within
prepared_M = refl

prepared-length : length (table_bytes M) ≡ table_length
unfolding table_bytes
prepared-length = refl

-- A line missing; not as laid out (a leading zero, a name of thirteen bytes, no LF at the end); bytes after the last.
missing-line : read_table (lines ("     1     1     0     0" ∷ [])) ≡ refusal 1 2
unfolding read_table_with read_labels_with read_transitions column digits_within
missing-line = refl

leading-zero : read_table (lines ("     3     2     3    00" ∷ [])) ≡ refusal 1 1
unfolding read_table_with read_labels_with read_transitions column digits_within
leading-zero = refl

long-name : read_table (lines ("     1     1     0     0" ∷ "     1 abcdefghijklm" ∷ [])) ≡ refusal 1 2
unfolding read_table_with read_labels_with read_transitions column digits_within
long-name = refl

no_end : read_table (lines ("     3     2     3     0" ∷ "     1 req" ∷ "     2 ack" ∷ "     0     1     1" ∷ "     1     0     2" ∷ []) ++ ascii "     1     2     0") ≡ refusal 1 6
unfolding read_table_with read_labels_with read_transitions column digits_within
no_end = refl

bytes_after : read_table (M_lines ++ ascii " ") ≡ refusal 1 7
unfolding read_table_with read_labels_with read_transitions column digits_within
bytes_after = refl

-- A number outside its range, or its turn.
no-state : read_table (lines ("     0     0     0     0" ∷ [])) ≡ refusal 2 1
unfolding read_table_with read_labels_with read_transitions column digits_within
no-state = refl

out_of_turn : read_table (lines ("     3     2     3     0" ∷ "     2 req" ∷ [])) ≡ refusal 2 2
unfolding read_table_with read_labels_with read_transitions column digits_within
out_of_turn = refl

no_such_state : read_table (lines ("     3     2     3     0" ∷ "     1 req" ∷ "     2 ack" ∷ "     0     1     3" ∷ [])) ≡ refusal 2 4
unfolding read_table_with read_labels_with read_transitions column digits_within
no_such_state = refl

-- A name used before; a transition not above the one before.
name-used : read_table (lines ("     3     2     3     0" ∷ "     1 req" ∷ "     2 req" ∷ [])) ≡ refusal 3 3
unfolding read_table_with read_labels_with read_transitions column digits_within
name-used = refl

not-above : read_table (lines ("     3     2     3     0" ∷ "     1 req" ∷ "     2 ack" ∷ "     0     1     1" ∷ "     0     1     1" ∷ [])) ≡ refusal 4 5
unfolding read_table_with read_labels_with read_transitions column digits_within
not-above = refl

-- On a line: 1 before 2, 2 before 3 and before 4. A line with a blank behind it and out of turn; a name used, out of turn; a transition as before, to a state
-- that is none.
layout_before_turn : read_table (lines ("     3     2     3     0" ∷ "     2 req " ∷ [])) ≡ refusal 1 2
unfolding read_table_with read_labels_with read_transitions column digits_within
layout_before_turn = refl

turn_before-name : read_table (lines ("     3     2     3     0" ∷ "     1 req" ∷ "     3 req" ∷ [])) ≡ refusal 2 3
unfolding read_table_with read_labels_with read_transitions column digits_within
turn_before-name = refl

range_before_order : read_table (lines ("     3     1     2     0" ∷ "     1 req" ∷ "     1     1     1" ∷ "     0     1     3" ∷ [])) ≡ refusal 2 4
unfolding read_table_with read_labels_with read_transitions column digits_within
range_before_order = refl

-- 02: the three names of one stem are three labels, received, sent and neither; a twelve-letter name with a mark.
abbrev directed : Table
directed = record {
  states = 1;
  names = ascii "clamp?" ∷ ascii "clamp!" ∷ ascii "clamp" ∷ ascii "abcdefghijkl!" ∷ [];
  transitions = [];
  start = 0;
}

three_of_a_stem : read_table (lines ("     1     4     0     0" ∷ "     1 clamp?" ∷ "     2 clamp!" ∷ "     3 clamp" ∷ "     4 abcdefghijkl!" ∷ [])) ≡ accepted directed
unfolding read_table_with read_labels_with read_transitions column digits_within
three_of_a_stem = refl

directions : (label_direction directed.names 1 ≡ received) × (label_direction directed.names 2 ≡ sent) × (label_direction directed.names 3 ≡ neither)
    × (label_direction directed.names 4 ≡ sent)
directions = (refl, refl, refl, refl)

prepared-directed : prepared_table (table_bytes directed) ≡ some directed
unfolding prepared_table table_bytes table_in read_table_with read_labels_with read_transitions table_text column digits_within
prepared-directed = refl

-- Not as laid out: two marks, a mark alone, a mark behind a blank, thirteen letters and a mark. A name with its mark used before.
two-marks : read_table (lines ("     1     1     0     0" ∷ "     1 clamp?!" ∷ [])) ≡ refusal 1 2
unfolding read_table_with read_labels_with read_transitions column digits_within
two-marks = refl

mark-alone : read_table (lines ("     1     1     0     0" ∷ "     1 ?" ∷ [])) ≡ refusal 1 2
unfolding read_table_with read_labels_with read_transitions column digits_within
mark-alone = refl

mark-behind_a_blank : read_table (lines ("     1     1     0     0" ∷ "     1 clamp ?" ∷ [])) ≡ refusal 1 2
unfolding read_table_with read_labels_with read_transitions column digits_within
mark-behind_a_blank = refl

thirteen_letters-and_a_mark : read_table (lines ("     1     1     0     0" ∷ "     1 abcdefghijklm?" ∷ [])) ≡ refusal 1 2
unfolding read_table_with read_labels_with read_transitions column digits_within
thirteen_letters-and_a_mark = refl

marked-name-used : read_table (lines ("     1     2     0     0" ∷ "     1 clamp?" ∷ "     2 clamp?" ∷ [])) ≡ refusal 3 3
unfolding read_table_with read_labels_with read_transitions column digits_within
marked-name-used = refl

-- 02: a name is looked up by all of its bytes: of names that differ in the first byte, the last one, the mark or what follows a beginning, each is a label of its own.
abbrev pub alike : List (List ℕ)
alike = ascii "clamp_1_open" ∷ ascii "blamp_1_open" ∷ ascii "clamp_1_opes" ∷ ascii "clamp_1_open!" ∷ ascii "clamp_1_open?" ∷ ascii "clamp" ∷ ascii "c" ∷ []

each_by_itself : map (lookup alike) alike ≡ map some (1 ∷ 2 ∷ 3 ∷ 4 ∷ 5 ∷ 6 ∷ 7 ∷ [])
unfolding find_from
each_by_itself = refl

nearly_named : map (lookup alike) (ascii "clamp_1_ope" ∷ ascii "lamp_1_open" ∷ ascii "clamp_2_open" ∷ ascii "blamp_1_open!" ∷ ascii "clam" ∷ ascii "b" ∷ [] ∷ [])
    ≡ none ∷ none ∷ none ∷ none ∷ none ∷ none ∷ none ∷ []
unfolding find_from
nearly_named = refl
