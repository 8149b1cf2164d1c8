-- The bytes that reading keeps while it goes: slots of names and transitions, as in the prepared table, and its first bytes.
use Rattle.std.specs.Prelude.{Bool, true, List, [], ◌∷◌, ◌++◌, map, ℕ, zero, suc, ◌+◌, ◌*◌, length, get_or, take, drop}
use Rattle.lts.specs.Sizes.{name_slot_length, transition_length}
use Rattle.lts.specs.inner.Sizes.{names_length, transitions_length}
use Rattle.columns.specs.Bytes.{padded, low_first}
use Rattle.lts.specs.inner.Lists.{up_from}
use Rattle.lts.specs.Lists.{bind}
use Rattle.lts.specs.Steps.{Step}
use Rattle.lts.specs.Reading.{Header, step_below}
use Rattle.lts.specs.Prepared.{name_slot, transition_slot}

-- A name slot's first bytes: the name's length and its bytes.
abbrev pub counted : List ℕ → List ℕ
counted n = length n ∷ n

-- The names and the transitions that slots hold.
abbrev pub stored_name : List ℕ → ℕ → List ℕ
stored_name b k = take (get_or b (k * name_slot_length) 0) (drop (k * name_slot_length + 1) b)

abbrev pub stored_names : List ℕ → ℕ → List (List ℕ)
stored_names b n = map (stored_name b) (up_from 0 n)

abbrev pub stored_step : List ℕ → ℕ → Step
stored_step b k = record { from = get_or b (k * transition_length) 0; label = get_or b (k * transition_length + 1) 0; to = get_or b (k * transition_length + 2) 0 }

unfoldable pub rises_after : List ℕ → ℕ → Step → Bool
rises_after b zero st = true
rises_after b (suc k) st = step_below (stored_step b k) st

abbrev pub name_bytes : List (List ℕ) → List ℕ
name_bytes names = padded names_length (bind name_slot names)

abbrev pub step_bytes : List Step → List ℕ
step_bytes steps = padded transitions_length (bind transition_slot steps)

-- The first six bytes of a prepared table.
abbrev pub head_bytes : Header → List ℕ
head_bytes h = low_first 2 h.states ++ (h.labels ∷ (low_first 2 h.transitions ++ (h.start ∷ [])))
