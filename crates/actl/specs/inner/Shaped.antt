-- Which slots are nodes at all.
use Rattle.std.specs.Prelude.{Bool, ◌&&◌, ◌||◌, ℕ, leb, eqb}
use Rattle.actl.specs.Prepared.{Slot}

-- The kinds whose first mask, and whose second, is a set (docs/FORMATS.md).
abbrev pub first_used : ℕ → Bool
first_used kind = eqb kind 5 || eqb kind 7 || eqb kind 8 || eqb kind 9

abbrev pub second_used : ℕ → Bool
second_used kind = eqb kind 9

-- A slot that some node has: its kind is one of the nine, and a mask that its kind does not have is zero.
unfoldable pub shaped : Slot → Bool
shaped s = leb 1 s.kind && leb s.kind 9 && (first_used s.kind || eqb s.first 0) && (second_used s.kind || eqb s.second 0)
