-- The words that the rows and edges in the lent places accept.
use Rattle.std.specs.Prelude.{◌≡◌, List, [], ◌∷◌, ℕ, ◌<◌}
use Rattle.automaton.specs.Bytes.{row_final, edge_at}
use Rattle.automaton.specs.Build.{Counts}

-- The listed edges lead by a word from the listed row i to a final one.
abbrev pub ReadsBytes : Counts → List ℕ → List ℕ → ℕ → List ℕ → Type 0
ReadsBytes c rows edges i [] = (i < c.rows) × (row_final rows i ≡ 1)
ReadsBytes c rows edges i (l ∷ w) =
    (i < c.rows) × ((j : ℕ) × (k : ℕ) × (j < c.edges) × (edge_at edges j ≡ record { row = i; label = l; target = k }) × ReadsBytes c rows edges k w)

-- 01: "row 0 is the root"
abbrev pub AcceptsBytes : Counts → List ℕ → List ℕ → List ℕ → Type 0
AcceptsBytes c rows edges w = ReadsBytes c rows edges 0 w
