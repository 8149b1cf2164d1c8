-- `put_until_then` puts EU and its two sets.
use borrow.Author.Rules.{rules}
use mathlib.Core.List.{◌∷◌}
use native.Mathlib.Omega.{arith}
use lib.ListN.{length-append}
use Rattle.lts.specs.inner.Prepared.{table_in}
use Rattle.written_back.specs.FormulaText.{set_text}
use Rattle.formula_pieces.proofs.Laws.Adds.{adds_then, room_after, over_after}
use Rattle.formula_pieces.proofs.Laws.Masks.{set-short}
use Rattle.formula_keywords.proofs.put_until_then.Goals as goal

pub put_pair-behind-requires : goal.put_pair-behind-requires
put_pair-behind-requires c =
    (over_after c.requires.0 c.open-inside.ensures 1125 (omega arith), c.requires.1, c.requires.2)

pub shut-requires : goal.shut-requires
shut-requires c =
    let a = c.args in
    let names = (table_in a.table.now).names in
    let short = set-short a.table.now c.requires.0.holds in
    let both = length-append (set_text names a.first) (59 ∷ set_text names a.second) in
    room_after (room_after c.requires.0.room c.open-inside.ensures 1127 (omega arith)) c.put_pair-behind.ensures 2
    (omega (arith, both, short a.first, short a.second))

pub returns : goal.returns
returns c =
    adds_then c.open-inside.ensures (adds_then c.put_pair-behind.ensures c.shut.ensures)
