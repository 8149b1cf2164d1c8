-- Worked examples: words of the automaton, run.
use mathlib.Core.Path.{◌≡◌, refl}
use mathlib.Core.Bool.{Bool, true, false}
use mathlib.Core.List.{List, [], ◌∷◌}
use Prim.Native.Nat.{ℕ}
use native.Mathlib.Omega.{arith}
use Rattle.columns.specs.Ascii.{ascii}
use Rattle.lts.specs.Steps.{Step, Table, silent}
use Rattle.lts.specs.inner.Steps.{steps_from}
use Rattle.lts.proofs.Examples.{M, step}
use Rattle.actl.specs.Actions.{silent as silentStep, labels, in_set, meets, passes}
use Rattle.actl.specs.Formulas.{Formula, tru, or, ex, eu, eu_then, class_of}
use Rattle.satisfaction.specs.inner.Holds.{holds, within}
use Rattle.automaton.specs.inner.Search.{final_of, final, leads_of, leads, targets, can_finish, number_of, moves_to_among, moves_on_among, moves_from_among, visit, visits}
use Rattle.automaton.specs.inner.Search.{expand_among, search_among, positions_among, moves_upto_among, listing}
use Rattle.automaton.specs.Listing.{Row, Edge, Listing}
use Rattle.automaton.specs.inner.DeadEnds.{whole_listing, drop_dead_ends, row_finishes}
use Rattle.automaton.specs.inner.Words.{accepts_from, accepts}
use Rattle.automaton.specs.AcceptsBytes.{AcceptsBytes}

-- One state with loops a, b, c (labels 1, 2, 3).
abbrev pub loops : Table
loops = record {
  states = 1;
  names = ascii "a" ∷ ascii "b" ∷ ascii "c" ∷ [];
  transitions = step 0 1 0 ∷ step 0 2 0 ∷ step 0 3 0 ∷ [];
  start = 0;
}

-- EX[b] T | EX[c] T | EX[a] EX[b] T: equal subformulas are different places.
abbrev pub either : Formula
either = or (or (ex (labels 4) tru) (ex (labels 8) tru)) (ex (labels 2) (ex (labels 4) tru))

accepts_a_b : accepts loops either (1 ∷ 2 ∷ []) ≡ true
unfolding accepts_from final final_of targets leads leads_of steps_from meets in_set silent
accepts_a_b = refl

never_a_c : accepts loops either (1 ∷ 3 ∷ []) ≡ false
unfolding accepts_from final final_of targets leads leads_of steps_from meets in_set silent
never_a_c = refl

-- A class 1 formula that does not hold has one bare row.
abbrev bare : Listing
bare = record { rows = record { place = 0; state = 0; final = false } ∷ []; edges = [] }

one-bare-row : listing M (eu_then 6 0 tru) ≡ bare
unfolding listing positions_among search_among expand_among visits visit moves_upto_among moves_from_among moves_on_among moves_to_among number_of can_finish targets leads leads_of
    final final_of holds within steps_from meets passes in_set class_of silent
one-bare-row = refl

-- Two rows and one edge in lent places, as AX[ack] T leaves them on M: word 1 is accepted, and the empty word is not.
abbrev AcceptedOnM : List ℕ → Type 0
AcceptedOnM w = AcceptsBytes (record { rows = 2; edges = 1 }) (0 ∷ 0 ∷ 0 ∷ 2 ∷ 1 ∷ 1 ∷ []) (0 ∷ 0 ∷ 1 ∷ 1 ∷ 0 ∷ []) w

word_in_bytes : AcceptedOnM (1 ∷ [])
word_in_bytes = (omega arith, (0, 1, omega arith, refl, (omega arith, refl)))

empty_word_not : AcceptedOnM [] → ⊥
empty_word_not (b, e) = omega (arith, e)

-- From state 0 label a (1) leads to states 1 and 2, and only state 1 has a step b (2): for EX[a] EX[b] T state 2 is a dead end. Row 2 is dropped,
-- and row 3 becomes row 2.
abbrev fork : Table
fork = record {
  states = 3;
  names = ascii "a" ∷ ascii "b" ∷ [];
  transitions = step 0 1 1 ∷ step 0 1 2 ∷ step 1 2 1 ∷ [];
  start = 0;
}

abbrev a_then_b : Formula
a_then_b = ex (labels 2) (ex (labels 4) tru)

abbrev pub row : ℕ → ℕ → Bool → Row
row k s b = record { place = k; state = s; final = b }

abbrev pub edge : ℕ → ℕ → ℕ → Edge
edge i l j = record { row = i; label = l; target = j }

abbrev fork_whole : Listing
fork_whole = record { rows = row 0 0 false ∷ row 1 1 false ∷ row 1 2 false ∷ row 2 1 true ∷ []; edges = edge 0 1 1 ∷ edge 0 1 2 ∷ edge 1 2 3 ∷ [] }

fork_whole_lem : whole_listing fork a_then_b ≡ fork_whole
unfolding positions_among search_among expand_among visits visit moves_upto_among moves_from_among moves_on_among moves_to_among number_of targets
    leads leads_of final final_of steps_from meets in_set silent
fork_whole_lem = refl

fork_dropped : drop_dead_ends (row_finishes fork a_then_b) fork_whole ≡ record { rows = row 0 0 false ∷ row 1 1 false ∷ row 2 1 true ∷ []; edges = edge 0 1 1 ∷ edge 1 2 2 ∷ [] }
unfolding can_finish holds within steps_from meets in_set class_of silent
fork_dropped = refl
