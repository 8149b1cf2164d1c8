-- `put` counts a byte, and puts it down if it is one of the first 512.
use borrow.Author.Rules.{rules}
use native.Mathlib.Omega.{arith}
use Rattle.formula_pieces.proofs.Laws.Adds.{adds-byte, adds-past}
use Rattle.formula_pieces.proofs.text.put.Goals as goal

pub returns-then-at-ge-LONGEST_TEXT : goal.returns-then-at-ge-LONGEST_TEXT
returns-then-at-ge-LONGEST_TEXT c =
    adds-past _ _ _ _ (omega arith) (omega (arith, c.if-at-ge-LONGEST_TEXT.true))

pub returns : goal.returns
returns c =
    adds-byte c.args.at c.args.b c.args.out.now (omega (arith, c.requires.long, c.if-at-ge-LONGEST_TEXT.false))
