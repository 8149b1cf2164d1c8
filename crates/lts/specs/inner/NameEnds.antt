-- Where a name ends in a text, as reading finds it: the longest one that stands at a place, its stem first and then its mark.
use Rattle.std.specs.Prelude.{cond, List, [], ◌∷◌, ℕ, zero, suc, ◌+◌, take, drop}
use Rattle.lts.specs.Names.{is_lower, is_name_byte}
use Rattle.lts.specs.Marks.{is_mark}
use Rattle.lts.specs.Directions.{Direction, direction_of}

-- How many bytes the longest name without its mark has that a text starts with; 0 if it starts with none.
abbrev pub stem_run : ℕ → List ℕ → ℕ
stem_run zero s = 0
stem_run (suc n) [] = 0
stem_run (suc n) (b ∷ s) = cond (is_name_byte b) (suc (stem_run n s)) 0

abbrev pub stem_length : List ℕ → ℕ
stem_length [] = 0
stem_length (b ∷ s) = cond (is_lower b) (suc (stem_run 11 s)) 0

abbrev pub stem_end : List ℕ → ℕ → ℕ
stem_end s from = from + stem_length (drop from s)

-- The same of the longest name, its mark included (proofs/Laws/NameRuns.antt: `run-is-name`, `run-is-longest`).
abbrev pub mark_length : List ℕ → ℕ
mark_length [] = 0
mark_length (b ∷ s) = cond (is_mark b) 1 0

abbrev pub with_mark : ℕ → List ℕ → ℕ
with_mark zero s = 0
with_mark (suc n) s = suc n + mark_length (drop (suc n) s)

abbrev pub name_length : List ℕ → ℕ
name_length s = with_mark (stem_length s) s

-- The place behind the longest name that stands at a place of a text, and its direction; the place itself if none does.
abbrev pub name_end : List ℕ → ℕ → ℕ
name_end s from = from + name_length (drop from s)

abbrev pub name_direction : List ℕ → ℕ → Direction
name_direction s from = direction_of (take (name_length (drop from s)) (drop from s))
