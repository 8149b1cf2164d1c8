-- Where the name of a label stands in prepared bytes, and its direction.
use Rattle.std.specs.Prelude.{◌≡◌, List, ℕ, ◌+◌, ◌-◌, ◌*◌, ◌<◌, take, drop}
use Rattle.lts.specs.inner.Sizes.{head_length}
use Rattle.lts.specs.Sizes.{name_slot_length}
use Rattle.lts.specs.Directions as directions
use Rattle.lts.specs.inner.Prepared.{byte_at, name_at}
use Rattle.label_names.specs.declared.Direction.{Direction}
use Rattle.label_names.specs.declared.Direction.TheVariants.{Neither, Received, Sent}
use Rattle.lts.specs.declared.spans.Span.{Span}

-- The bytes of the name in slot k: where they start, how many there are, and which they are.
pub record NameStands (b : List ℕ) (k : ℕ) (r : Span) : Type 0 where
  pub starts : r.from ≡ head_length + 1 + k * name_slot_length
  pub ends : r.to ≡ r.from + byte_at b (head_length + k * name_slot_length)
  pub short : byte_at b (head_length + k * name_slot_length) < 256
  pub name : take (r.to - r.from) (drop r.from b) ≡ name_at b k

-- A name's direction.
abbrev pub direction_in : Direction → directions.Direction
direction_in Neither = directions.neither
direction_in Received = directions.received
direction_in Sent = directions.sent
