-- The executable twin of `Walk` (../Positions.antt): `accepts-is` (proofs/Reading.antt) makes `accepts` equal to it. Before it, the words of a listing.
use Rattle.std.specs.Prelude.{◌≡◌, Bool, true, ◌&&◌, ℕ}
use mathlib.Core.List.{List, [], ◌∷◌, Memᴰ}
use Rattle.lts.specs.Lists.{any_of}
use Rattle.lts.specs.Steps.{Step, Table}
use Rattle.lts.specs.inner.Steps.{steps_from}
use Rattle.actl.specs.Formulas.{Formula}
use Rattle.automaton.specs.Positions.{Position, at, root_at}
use Rattle.automaton.specs.Listing.{Listing, Edge}
use Rattle.automaton.specs.inner.Search.{final, targets, on_label}
use Rattle.automaton.specs.Listed.{IsRow, row_at}

-- The listing's edges lead by a word from row i to a final row.
pub data Reads (L : Listing) : ℕ → List ℕ → Type 0 where
  ends : {i : ℕ} → IsRow L i → (row_at L i).final ≡ true → Reads L i []
  reads : {i j l : ℕ} {w : List ℕ} → Memᴰ (record { row = i; label = l; target = j }) L.edges → Reads L j w → Reads L i (l ∷ w)

-- The listed automaton accepts a word.
abbrev pub Accepts : Listing → List ℕ → Type 0
Accepts L w = Reads L 0 w

-- The same as a test, on positions: some step with the first letter leads to a position that accepts the rest.
unfoldable pub accepts_from : Table → Formula → List ℕ → Position → Bool
accepts_from t F [] p = final F p.place
accepts_from t F (l ∷ w) p =
    any_of (λ st. on_label l st && any_of (λ q. accepts_from t F w (at q st.to)) (targets F p.place l)) (steps_from t p.state)

abbrev pub accepts : Table → Formula → List ℕ → Bool
accepts t F w = accepts_from t F w (root_at t)
