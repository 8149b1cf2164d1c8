-- The search that enters every position, dead ends included, with the listing of what it finds, in portions too; and what is left of such a
-- listing when its dead ends are dropped.
use Rattle.std.specs.Prelude.{Bool, true, ◌&&◌, List, [], ◌∷◌, map, ℕ, min, length, take}
use Rattle.lts.specs.inner.Lists.{keep}
use Rattle.lts.specs.Steps.{Table}
use Rattle.actl.specs.Formulas.{Formula}
use Rattle.automaton.specs.Positions.{Position, at, root_at}
use Rattle.automaton.specs.inner.Search.{can_finish, Move, search_among, positions_among, moves_upto_among, row_of, edge_of}
use Rattle.automaton.specs.Listing.{Row, Edge, Listing}
use Rattle.automaton.specs.Listed.{row_at}

abbrev pub any_position : Position → Bool
any_position p = true

-- All reached positions, breadth first, and the moves of all of them, row by row.
abbrev pub all_positions : Table → Formula → List Position
all_positions t F = positions_among any_position t F

abbrev pub all_moves : Table → Formula → List Move
all_moves t F = moves_upto_among any_position t F (all_positions t F) (length (all_positions t F))

-- Positions with the moves of the first n of them, as a listing.
abbrev pub listed : Table → Formula → List Position → ℕ → Listing
listed t F rows n = record { rows = map (row_of F) rows; edges = map (edge_of rows) (moves_upto_among any_position t F rows n) }

abbrev pub whole_listing : Table → Formula → Listing
whole_listing t F = listed t F (all_positions t F) (length (all_positions t F))

-- In portions: what is found and listed when i rows have been expanded, or all rows if they are fewer.
abbrev pub found_after : Table → Formula → ℕ → List Position
found_after t F i = search_among any_position t F i 0 (root_at t ∷ [])

abbrev pub listed_after : Table → Formula → ℕ → Listing
listed_after t F i = listed t F (found_after t F i) (min i (length (found_after t F i)))

-- Dropping: the live rows stay, in order, and so does the first row. 01: "The root row stays even if none can."
abbrev pub keep_rows : (Row → Bool) → List Row → List Row
keep_rows live [] = []
keep_rows live (r ∷ rows) = r ∷ keep live rows

module _ (live : Row → Bool) (L : Listing) where
  -- A row's new number is the number of rows before it that stay.
  abbrev pub new_number : ℕ → ℕ
  new_number i = length (keep_rows live (take i L.rows))

  abbrev pub between_live : Edge → Bool
  between_live e = live (row_at L e.row) && live (row_at L e.target)

  abbrev pub renumbered : Edge → Edge
  renumbered e = record { row = new_number e.row; label = e.label; target = new_number e.target }

  abbrev pub drop_dead_ends : Listing
  drop_dead_ends = record { rows = keep_rows live L.rows; edges = map renumbered (keep between_live L.edges) }

-- A row from which a final position can be reached.
abbrev pub row_finishes : Table → Formula → Row → Bool
row_finishes t F r = can_finish t F (at r.place r.state)
