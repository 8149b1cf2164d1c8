-- `writing::write_row` meets its contract: what is left of the columns leads to the bytes at the end.
use mathlib.Core.Path.{◌≡◌, refl, ap, ◌∙◌}
use mathlib.Core.List.{List, ◌++◌}
use Prim.Native.Nat.{ℕ, ◌+◌, ◌-◌, ◌*◌, ◌≤◌}
use native.Mathlib.Omega.{arith}
use lib.ListN.{length}
use Rattle.columns.specs.inner.Write.{pasted}
use Rattle.deterministic.specs.Sizes.{most_letters}
use Rattle.numbering.specs.inner.Written.{step_in, steps_in}
use Rattle.numbering.proofs.Laws.Puts.{Left, left-start, left_as, part_room, left_after, left_done, steps_turn, steps_over}
use Rattle.numbering.proofs.writing.write_row.Given as goal

abbrev pub invariant-loop-c : goal.invariant-loop-c
invariant-loop-c l = (l.c ≤ l.columns) × (length l.out ≡ length l.initial.out)
    × (let all = steps_in l.next l.blocks l.numbers l.n l.columns l.row l.first 0 l.columns in
    Left (steps_in l.next l.blocks l.numbers l.n l.columns l.row l.first l.c (l.columns - l.c)) l.out l.end (pasted l.initial.out l.at all) (l.at + length all))
