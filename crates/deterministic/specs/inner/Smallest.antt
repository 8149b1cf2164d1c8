-- The executable twins of `FewSets` (../Sets.antt) and `IsSmallest` (../Smallest.antt) for a listing: `refused_exactly` and `smallest-is` (proofs/Request.antt) say what
-- they are, and by `unique` (proofs/Unique.antt) no other automaton is the smallest.
use Rattle.std.specs.Prelude.{Bool, List}
use Rattle.lts.specs.Steps.{Table}
use Rattle.lts.specs.inner.Steps.{alphabet}
use Rattle.automaton.specs.Listing.{Listing}
use Rattle.deterministic.specs.Sizes.{most_sets}
use Rattle.deterministic.specs.Automata.{Automaton}
use Rattle.deterministic.specs.Listings.{automaton_in}
use Rattle.deterministic.specs.inner.Subsets.{sets, smallest}

-- The sets of rows that words lead to, as flags: all of them if they are at most 256, and else more than 256.
abbrev pub sets_of : Table → Listing → List (List Bool)
sets_of t L = sets (automaton_in L) (alphabet t) most_sets

abbrev pub smallest_of : Table → Listing → Automaton
smallest_of t L = smallest (automaton_in L) (alphabet t) most_sets
