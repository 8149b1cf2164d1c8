-- 02, marks: which pieces a text of the grammar with marks may have, which all may, and which one of 01's, without them.
use Rattle.std.specs.Prelude.{Bool, true, false, not, ◌||◌}
use Rattle.lts.specs.Marks.{Marks, unmarked, marked, is_mark}
use Rattle.lts.specs.Names.{is_name_with}
use Rattle.actl.specs.Grammar.{Piece, byte, named}

abbrev pub allows : Marks → Bool
allows unmarked = false
allows marked = true

-- A name is one of the grammar's; a byte is a mark only where there are marks, as an operand `?` or `!` is.
abbrev pub fits_piece : Marks → Piece → Bool
fits_piece m (byte b) = allows m || not (is_mark b)
fits_piece m (named n) = is_name_with m n.bytes
