-- The bytes of a deterministic automaton (docs/FORMATS.md): how many states and edges it has, a final mark for each state, and each edge.
use Rattle.std.specs.Prelude.{List, [], ◌∷◌, ◌++◌, map, ℕ, ◌+◌, ◌*◌, length, get_or, take}
use Rattle.columns.specs.Bytes.{low_first}
use Rattle.lts.specs.Lists.{bind}
use Rattle.automaton.specs.Listing.{Edge}
use Rattle.automaton.specs.Bytes.{bit_of}
use Rattle.deterministic.specs.Automata.{Automaton, count}

abbrev pub step_bytes : Edge → List ℕ
step_bytes e = e.row ∷ e.label ∷ e.target ∷ []

unfoldable pub automaton_bytes : Automaton → List ℕ
automaton_bytes d = low_first 2 (count d) ++ (low_first 2 (length d.edges) ++ (map bit_of d.final ++ bind step_bytes d.edges))

-- The used bytes of a buffer that begins so.
abbrev pub pair_at : ℕ → List ℕ → ℕ
pair_at at bytes = get_or bytes at 0 + get_or bytes (at + 1) 0 * 256

abbrev pub used_length : List ℕ → ℕ
used_length bytes = 4 + pair_at 0 bytes + 3 * pair_at 2 bytes

abbrev pub used : List ℕ → List ℕ
used bytes = take (used_length bytes) bytes
