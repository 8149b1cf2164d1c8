-- What the smallest deterministic automaton of a language is, without a search.
use Rattle.std.specs.Prelude.{◌≡◌, ◌⊎◌, ◌↔◌, ℕ, ◌<◌, ◌≤◌}
use mathlib.Core.List.{List, ◌∷◌, ◌++◌, Memᴰ}
use Rattle.lts.specs.Lists.{Rising}
use Rattle.automaton.specs.Listing.{Edge}
use Rattle.deterministic.specs.Automata.{Automaton, count, Leads, Reads, Accepts, WellFormed, bare}

-- By state, then label: so at most one edge leaves a state by a label.
abbrev pub Before : Edge → Edge → Type 0
Before a b = (a.row < b.row) ⊎ ((a.row ≡ b.row) × (a.label < b.label))

abbrev pub SameWords : (List ℕ → Type 0) → (List ℕ → Type 0) → Type 0
SameWords P Q = (w : List ℕ) → P w ↔ Q w

-- From every state a final one can be reached: there is no trap state.
abbrev pub CanFinish : Automaton → Type 0
CanFinish A = (i : ℕ) → i < count A → (w : List ℕ) × Reads A i w

pub record IsSmallest (words : List ℕ → Type 0) (d : Automaton) : Type 0 where
  pub well_formed : WellFormed d
  pub sorted : Rising Before d.edges
  -- "with the same words"
  pub exact : SameWords words (Accepts d)
  pub reached : (i : ℕ) → i < count d → (w : List ℕ) × Leads d 0 w i
  -- "without a trap state"; "an empty language gives one state"
  pub no_trap : CanFinish d ⊎ (d ≡ bare)
  -- different states have different residuals
  pub apart : (i j : ℕ) → i < count d → j < count d → SameWords (Reads d i) (Reads d j) → i ≡ j
  -- "numbered breadth first by rising label": states are numbered as edges first lead to them
  pub in_turn : (before after : List Edge) (e : Edge) → d.edges ≡ before ++ (e ∷ after) → (i : ℕ) → 1 ≤ i → i < e.target → (a : Edge) × Memᴰ a before × (a.target ≡ i)
