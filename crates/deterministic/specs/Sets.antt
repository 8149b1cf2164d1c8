-- 02: "The sets of rows reached by words, the empty set aside, may number at most 256."
use Rattle.std.specs.Prelude.{◌↔◌, ℕ, ◌≤◌, length}
use mathlib.Core.List.{List, Memᴰ}
use Rattle.deterministic.specs.Automata.{Automaton, Leads}

-- Two words lead to the same states.
abbrev pub SameSet : Automaton → List ℕ → List ℕ → Type 0
SameSet A v w = (q : ℕ) → Leads A 0 v q ↔ Leads A 0 w q

-- Of so many words: every word that leads to a state leads to the set of one of them.
abbrev pub FewSets : Automaton → ℕ → Type 0
FewSets A limit = (l : List (List ℕ)) × (length l ≤ limit) × ((w : List ℕ) (q : ℕ) → Leads A 0 w q → (v : List ℕ) × Memᴰ v l × SameSet A v w)
