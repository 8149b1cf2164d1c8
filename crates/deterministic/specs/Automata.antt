-- Automata: states numbered from 0, the start; a final mark for each; edges. An automaton may be nondeterministic, as the rows and edges of
-- a build are, or deterministic.
use Rattle.std.specs.Prelude.{◌≡◌, Bool, true, false, ℕ, ◌<◌, length, get_or}
use mathlib.Core.List.{List, [], ◌∷◌, Memᴰ}
use Rattle.automaton.specs.Listing.{Edge}

abbrev pub edge : ℕ → ℕ → ℕ → Edge
edge i l j = record { row = i; label = l; target = j }

pub record Automaton : Type 0 where
  pub final : List Bool
  pub edges : List Edge

abbrev pub count : Automaton → ℕ
count A = length A.final

abbrev pub IsFinal : Automaton → ℕ → Type 0
IsFinal A i = get_or A.final i false ≡ true

abbrev pub IsEdge : Automaton → Edge → Type 0
IsEdge A e = Memᴰ e A.edges

-- The edges lead by a word from state i to state j.
abbrev pub Leads : Automaton → ℕ → List ℕ → ℕ → Type 0
Leads A i [] j = i ≡ j
Leads A i (l ∷ w) j = (k : ℕ) × IsEdge A (edge i l k) × Leads A k w j

-- The edges lead by a word from state i to a final state. The words read from state i are its residual.
abbrev pub Reads : Automaton → ℕ → List ℕ → Type 0
Reads A i [] = IsFinal A i
Reads A i (l ∷ w) = (k : ℕ) × IsEdge A (edge i l k) × Reads A k w

abbrev pub Accepts : Automaton → List ℕ → Type 0
Accepts A w = Reads A 0 w

-- There is a start, and edges join states.
pub record WellFormed (A : Automaton) : Type 0 where
  pub some_state : 0 < count A
  pub in_range : (e : Edge) → IsEdge A e → (e.row < count A) × (e.target < count A)

-- At most one edge leaves a state by a label.
abbrev pub Deterministic : Automaton → Type 0
Deterministic A = (i l j k : ℕ) → IsEdge A (edge i l j) → IsEdge A (edge i l k) → j ≡ k

-- One state, not final, and no edges: the automaton without words.
abbrev pub bare : Automaton
bare = record { final = false ∷ []; edges = [] }
