-- The search for a wrong entry, entry by entry.
use Rattle.std.specs.Prelude.{List, [], ◌∷◌, ℕ, suc, ◌+◌}
use Rattle.std.proofs.Math.Option.{Option, none, some}
use Rattle.lts.specs.Sizes.{most_states}

-- What was found first.
abbrev pub earlier : Option ℕ → Option ℕ → Option ℕ
earlier none later = later
earlier (some i) later = some i

-- What the next entry may be at the least, behind a list whose first entry may be `least`.
abbrev pub least_after : ℕ → List ℕ → ℕ
least_after least [] = least
least_after least (s ∷ l) = least_after (suc s) l

-- So many entries cannot all be right: a longer list has a wrong one among them.
abbrev pub enough_starts : ℕ
enough_starts = most_states + 1
