-- What the check of prepared bytes asks, slot by slot. proofs/Laws/WellFormed.antt: together it is exactly that the bytes are prepared.
use Rattle.std.specs.Prelude.{◌≡◌, true, List, ℕ, suc, ◌+◌, ◌*◌, ◌≤◌, ◌<◌, length}
use Rattle.lts.specs.Sizes.{most_states, most_labels, most_transitions, name_slot_length, transition_length, table_length}
use Rattle.lts.specs.inner.Sizes.{head_length, transitions_at}
use Rattle.lts.specs.Names.{is_name}
use Rattle.lts.specs.Steps.{Table, labels}
use Rattle.lts.specs.inner.Range.{Below, Differ}
use Rattle.lts.specs.inner.Prepared.{byte_at, name_at, transition_at, table_in}

-- Bytes from i to before j that are all zero.
abbrev pub ZerosFrom : List ℕ → ℕ → ℕ → Type 0
ZerosFrom b i j = (k : ℕ) → i ≤ k → k < j → byte_at b k ≡ 0

-- 01: "states (1 to 256), labels (0 to 40), transitions (0 to 1,024), start (below states)"
pub record CountsHeld (t : Table) : Type 0 where
  pub some_state : 1 ≤ t.states
  pub few_states : t.states ≤ most_states
  pub few_labels : labels t ≤ most_labels
  pub few_transitions : length t.transitions ≤ most_transitions
  pub starts : t.start < t.states

-- A name stands in slot k, with zeros behind it; and it is none of the names before it.
pub record NameHeld (b : List ℕ) (k : ℕ) : Type 0 where
  pub name : is_name (name_at b k) ≡ true
  pub behind : ZerosFrom b ((head_length + 1 + k * name_slot_length) + byte_at b (head_length + k * name_slot_length)) (head_length + name_slot_length + k * name_slot_length)

abbrev pub NewName : List ℕ → ℕ → Type 0
NewName b k = (j : ℕ) → j < k → Differ (name_at b j) (name_at b k)

abbrev pub NamesHeld : List ℕ → Type 0
NamesHeld b = (k : ℕ) → k < labels (table_in b) → NameHeld b k × NewName b k

-- The transition in slot k is in range, and above the one before.
pub record TransitionHeld (b : List ℕ) (states most k : ℕ) : Type 0 where
  pub leaves : (transition_at b k).from < states
  pub labelled : (transition_at b k).label ≤ most
  pub enters : (transition_at b k).to < states
  pub rises : (j : ℕ) → suc j ≡ k → Below (transition_at b j) (transition_at b k)

abbrev pub TransitionsHeld : List ℕ → Type 0
TransitionsHeld b = (k : ℕ) → k < length (table_in b).transitions → TransitionHeld b (table_in b).states (labels (table_in b)) k

-- All of it, and zeros in the slots that are not used.
pub record WellFormed (b : List ℕ) : Type 0 where
  pub long : table_length ≤ length b
  pub counts : CountsHeld (table_in b)
  pub names : NamesHeld b
  pub past_names : ZerosFrom b (head_length + labels (table_in b) * name_slot_length) transitions_at
  pub transitions : TransitionsHeld b
  pub past_transitions : ZerosFrom b (transitions_at + length (table_in b).transitions * transition_length) table_length
