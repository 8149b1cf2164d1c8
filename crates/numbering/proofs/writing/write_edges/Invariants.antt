-- `writing::write_edges` meets its contract: what is left of the rows leads to the bytes at the end.
use borrow.Author.Rules.{rules}
use mathlib.Core.Path.{◌≡◌, refl, sym, ap, ◌∙◌, subst}
use mathlib.Core.List.{List, ◌++◌}
use Prim.Native.Nat.{ℕ, ◌+◌, ◌-◌, ◌*◌, ◌≤◌}
use native.Mathlib.Omega.{arith}
use lib.ListN.{length}
use Rattle.columns.specs.inner.Write.{pasted}
use Rattle.deterministic.specs.Sizes.{most_letters}
use Rattle.numbering.specs.inner.Written.{steps_in, edges_in, RowFits}
use Rattle.numbering.proofs.Laws.Puts.{Left, left-start, left_as, part_room, left_after, left_done, edges_turn, edges_over}
use Rattle.numbering.proofs.writing.write_edges.Given as goal

abbrev pub invariant-loop-i : goal.invariant-loop-i
invariant-loop-i l = (l.i ≤ l.count) × (length l.out ≡ length l.initial.out)
    × (let all = edges_in l.next l.blocks l.numbers l.n l.columns l.rows 0 l.count in
    Left (edges_in l.next l.blocks l.numbers l.n l.columns l.rows l.i (l.count - l.i)) l.out l.end (pasted l.initial.out (4 + l.count) all) (4 + l.count + length all))
