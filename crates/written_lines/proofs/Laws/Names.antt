-- The names in the slots of a table that stands in bytes.
use mathlib.Core.Path.{◌≡◌, subst}
use mathlib.Core.Bool.{true}
use mathlib.Core.List.{List, []}
use Prim.Native.Nat.{ℕ, ◌+◌, ◌*◌, ◌≤◌, ◌<◌}
use native.Mathlib.Omega.{arith}
use lib.ListN.{length, get_or}
use Rattle.lts.specs.Sizes.{name_slot_length}
use Rattle.lts.specs.Steps.{labels}
use Rattle.lts.specs.Names.{is_name}
use Rattle.lts.specs.inner.Sizes.{head_length, longest_name}
use Rattle.lts.specs.inner.Prepared.{table_in, byte_at, name_at}
use Rattle.lts.specs.inner.HoldsTable.{HoldsTable}
use Rattle.lts.proofs.Lists.{get_d_mem}
use Rattle.lts.proofs.Laws.Contents.{name_in_lem}
use Rattle.lts.proofs.Laws.NameRuns.{name-short}
use Rattle.lts.proofs.Laws.SlotNames.{name-length}

module _ {b : List ℕ} {k : ℕ} (h : HoldsTable b) (few : k < labels (table_in b)) where
  slot-named : is_name (name_at b k) ≡ true
  slot-named =
      subst (λ l. is_name l ≡ true) (name_in_lem b k [] few) (h.in_range.named (get_or (table_in b).names k []) (get_d_mem (table_in b).names k [] few))

  pub slot-short : length (name_at b k) ≤ longest_name
  slot-short = (name-short (name_at b k) slot-named).1

  pub slot-wide : byte_at b (head_length + k * name_slot_length) < 256 → length (name_at b k) ≡ byte_at b (head_length + k * name_slot_length)
  slot-wide small = name-length b h.long k (omega (arith, few, h.in_range.few_labels)) small
