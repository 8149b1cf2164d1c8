-- `put_keyword` puts the letters with `[`, the step condition, and `]` with its blank.
use borrow.Author.Rules.{rules}
use native.Mathlib.Omega.{arith}
use Rattle.formulas.specs.inner.Access.{cond_in}
use Rattle.formula_pieces.proofs.Laws.Adds.{adds_then, room_after, over_after}
use Rattle.formula_pieces.proofs.Laws.Masks.{cond_short}
use Rattle.formula_keywords.proofs.put_keyword.Goals as goal

pub put_condition-behind-requires : goal.put_condition-behind-requires
put_condition-behind-requires c =
    (over_after c.requires.0 c.open-inside.ensures 562 (omega arith), c.requires.1)

pub shut-requires : goal.shut-requires
shut-requires c =
    let short = cond_short c.args.table.now c.requires.0.holds (cond_in c.args.condition) in
    room_after (room_after c.requires.0.room c.open-inside.ensures 564 (omega arith)) c.put_condition-behind.ensures 2 (omega (arith, short))

pub returns : goal.returns
returns c =
    adds_then c.open-inside.ensures (adds_then c.put_condition-behind.ensures c.shut.ensures)
