-- Bytes that begin with those of an automaton, and the room that its text takes.
use Rattle.std.specs.Prelude.{◌≡◌, List, ℕ, ◌+◌, ◌*◌, ◌≤◌, length, take}
use Rattle.deterministic.specs.Automata.{Automaton, count}
use Rattle.deterministic.specs.Bytes.{automaton_bytes}
use Rattle.deterministic.specs.Sizes.{most_sets, most_letters}

pub record AutomatonIn (d : Automaton) (bytes : List ℕ) : Type 0 where
  pub held : take (length (automaton_bytes d)) bytes ≡ automaton_bytes d
  pub few_states : count d ≤ most_sets
  pub few_edges : length d.edges ≤ most_sets * most_letters

-- The first line, a line of two numbers for each state, one of three for each edge.
abbrev pub longest_text : ℕ
longest_text = 13 + most_sets * 13 + most_sets * most_letters * 19
