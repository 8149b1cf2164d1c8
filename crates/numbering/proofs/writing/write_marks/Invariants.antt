-- `writing::write_marks` meets its contract: what is left of the rows leads to the bytes at the end.
use borrow.Author.Rules.{rules}
use mathlib.Core.Path.{◌≡◌, refl, ap, ◌∙◌}
use mathlib.Core.List.{[], ◌∷◌, map}
use Prim.Native.Nat.{◌+◌, ◌-◌, ◌≤◌}
use native.Mathlib.Omega.{arith}
use lib.ListN.{length, get_or, take, length-map, length-set}
use lib.Seq.{length-take-le, slice}
use Rattle.columns.specs.inner.Write.{pasted}
use Rattle.columns.proofs.Laws.Pasted.{set-pasted}
use Rattle.numbering.specs.inner.Written.{mark_of, marks_of}
use Rattle.numbering.proofs.Laws.Puts.{put_as, Left, left-start, left_as, part_room, left_after, left_done, marks_turn, marks_over}
use Rattle.numbering.proofs.writing.write_marks.Given as goal

abbrev pub invariant-loop-i : goal.invariant-loop-i
invariant-loop-i l = (l.i ≤ l.count) × (length l.out ≡ length l.initial.out)
    × Left (map (mark_of l.marks) (slice l.i l.count l.rows)) l.out (4 + l.i) (pasted l.initial.out 4 (marks_of l.marks l.rows l.count)) (4 + length (marks_of l.marks l.rows l.count))
