-- The rows and edges of a listing as an automaton.
use Rattle.std.specs.Prelude.{map}
use Rattle.automaton.specs.Listing.{Row, Listing}
use Rattle.deterministic.specs.Automata.{Automaton}

abbrev pub automaton_in : Listing → Automaton
automaton_in L = record { final = map (λ (r : Row). r.final) L.rows; edges = L.edges }
