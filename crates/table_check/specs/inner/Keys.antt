-- A transition as one number, and what the test of a slot asks by it.
-- proofs/Laws/Keys.antt: of bytes, these numbers rise as the transitions do.
use Rattle.std.specs.Prelude.{List, ℕ, ◌+◌, ◌*◌, ◌≤◌, ◌<◌}
use Rattle.lts.specs.Steps.{Step}
use Rattle.lts.specs.inner.Prepared.{transition_at}

abbrev pub step_key : Step → ℕ
step_key st = (st.from * 256 + st.label) * 256 + st.to

-- Slot k, but for the state that is left: label and target are in range, and the key is not below `least`.
pub record SlotHeld (b : List ℕ) (states most least k : ℕ) : Type 0 where
  pub labelled : (transition_at b k).label ≤ most
  pub enters : (transition_at b k).to < states
  pub rises : least ≤ step_key (transition_at b k)
