-- `put_pair` puts a set, `;` and a set.
use borrow.Author.Rules.{rules}
use native.Mathlib.Omega.{arith}
use Rattle.formula_pieces.proofs.Laws.Adds.{adds_then, room_after, over_after}
use Rattle.formula_pieces.proofs.Laws.Masks.{set-short}
use Rattle.formula_keywords.proofs.put_pair.Goals as goal

pub put-other-requires : goal.put-other-requires
put-other-requires c =
    let short = set-short c.args.table.now c.requires.0.holds c.args.first in
    room_after c.requires.0.room c.put_set-between.ensures 1 (omega (arith, short))

pub put_set-requires : goal.put_set-requires
put_set-requires c =
    let short = set-short c.args.table.now c.requires.0.holds c.args.first in
    (over_after (over_after c.requires.0 c.put_set-between.ensures 563 (omega (arith, short))) c.put-other.ensures 562 (omega arith), c.requires.2)

pub returns : goal.returns
returns c =
    adds_then c.put_set-between.ensures (adds_then c.put-other.ensures c.put_set.ensures)
