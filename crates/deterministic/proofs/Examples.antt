-- `smallest` run on small automata, by computation.
use mathlib.Core.Path.{◌≡◌, refl}
use mathlib.Core.Bool.{true, false}
use mathlib.Core.List.{List, [], ◌∷◌}
use Prim.Native.Nat.{ℕ}
use lib.ListN.{length}
use Rattle.deterministic.specs.inner.Lists.{same_lists}
use Rattle.deterministic.specs.Automata.{edge, Automaton, bare}
use Rattle.deterministic.specs.inner.Search.{number_of, moves_from, visit, visits, expand, search, found, moves_upto, automaton_of}
use Rattle.deterministic.specs.inner.Blocks.{signature, refine, refined, blocks, numbered}
use Rattle.deterministic.specs.inner.Subsets.{set_of, start_set, step_set, final_set, nonempty, sets, smallest}

abbrev alphabet : List ℕ
alphabet = 0 ∷ 1 ∷ 99 ∷ []

-- Two states by one label: one set.
abbrev forked : Automaton
forked = record { final = true ∷ false ∷ false ∷ []; edges = edge 0 0 1 ∷ edge 0 0 2 ∷ edge 1 1 0 ∷ edge 2 1 0 ∷ [] }

forked_smallest : smallest forked alphabet 256 ≡ record { final = true ∷ false ∷ []; edges = edge 0 0 1 ∷ edge 1 1 0 ∷ [] }
unfolding smallest numbered sets found search expand visits visit moves_from moves_upto number_of automaton_of same_lists set_of start_set step_set final_set nonempty blocks refined refine signature
forked_smallest = refl

-- Three sets, two of them with the same words, and a silent loop.
abbrev doubled : Automaton
doubled = record { final = true ∷ false ∷ false ∷ []; edges = edge 0 0 1 ∷ edge 0 1 2 ∷ edge 1 1 0 ∷ edge 1 99 2 ∷ edge 2 1 0 ∷ edge 2 99 1 ∷ [] }

doubled_sets : length (sets doubled alphabet 256) ≡ 3
unfolding sets found search expand visits visit moves_from number_of same_lists set_of start_set step_set nonempty
doubled_sets = refl

doubled_smallest : smallest doubled alphabet 256 ≡ record { final = true ∷ false ∷ []; edges = edge 0 0 1 ∷ edge 0 1 1 ∷ edge 1 1 0 ∷ edge 1 99 1 ∷ [] }
unfolding smallest numbered sets found search expand visits visit moves_from moves_upto number_of automaton_of same_lists set_of start_set step_set final_set nonempty blocks refined refine signature
doubled_smallest = refl

-- The second letter from the end is 0: four sets, all different.
abbrev second : Automaton
second = record { final = false ∷ false ∷ true ∷ []; edges = edge 0 0 0 ∷ edge 0 0 1 ∷ edge 0 1 0 ∷ edge 1 0 2 ∷ edge 1 1 2 ∷ [] }

second-smallest : smallest second alphabet 256 ≡ record {
  final = false ∷ false ∷ true ∷ true ∷ [];
  edges = edge 0 0 1 ∷ edge 0 1 0 ∷ edge 1 0 2 ∷ edge 1 1 3 ∷ edge 2 0 2 ∷ edge 2 1 3 ∷ edge 3 0 1 ∷ edge 3 1 0 ∷ [];
}
unfolding smallest numbered sets found search expand visits visit moves_from moves_upto number_of automaton_of same_lists set_of start_set step_set final_set nonempty blocks refined refine signature
second-smallest = refl

-- Past the limit the search is cut off with more sets than the limit.
second-refused : length (sets second alphabet 3) ≡ 4
unfolding sets found search expand visits visit moves_from number_of same_lists set_of start_set step_set nonempty
second-refused = refl

bare-smallest : smallest bare alphabet 256 ≡ bare
unfolding smallest numbered sets found search expand visits visit moves_from moves_upto number_of automaton_of same_lists set_of start_set step_set final_set nonempty blocks refined refine signature
bare-smallest = refl
