-- What the tests of name slots and of transition slots hand to the check of the whole table, and to each other.
use Rattle.std.specs.Prelude.{List, ℕ, ◌+◌, ◌*◌, ◌<◌, length}
use Rattle.lts.specs.inner.Sizes.{head_length, transitions_at}
use Rattle.lts.specs.Sizes.{name_slot_length, transition_length, table_length}
use Rattle.lts.specs.Steps.{labels}
use Rattle.lts.specs.inner.Prepared.{table_in}
use Rattle.lts.specs.inner.Check.{ZerosFrom, NameHeld, NamesHeld, TransitionsHeld}

-- The first n slots hold names.
abbrev pub HeldBefore : List ℕ → ℕ → Type 0
HeldBefore b n = (j : ℕ) → j < n → NameHeld b j

-- Slots in use are as they must be, and zeros stand behind them.
pub record Filled (Held : Type 0) (b : List ℕ) (from to : ℕ) : Type 0 where
  pub held : Held
  pub behind : ZerosFrom b from to

abbrev pub NamesFilled : List ℕ → Type 0
NamesFilled b = Filled (NamesHeld b) b (head_length + labels (table_in b) * name_slot_length) transitions_at

abbrev pub TransitionsFilled : List ℕ → Type 0
TransitionsFilled b = Filled (TransitionsHeld b) b (transitions_at + length (table_in b).transitions * transition_length) table_length
