-- `keyword` reads a keyword with its bracket and the blanks behind it, and puts its nodes down.
use native.Mathlib.Omega.{arith}
use Rattle.formula_terms.proofs.ReadingTerms.{prefix_head}
use Rattle.formula_terms.proofs.keyword.Goals as goal

pub skip_blanks-end-requires : goal.skip_blanks-end-requires
skip_blanks-end-requires c = c.in_ok-x.ensures.moves.within

pub returns-then-x : goal.returns-then-x
returns-then-x c = prefix_head (rw c.if-x.true at c.in_ok-x.ensures) c.skip_blanks-end.ensures c.put_dual.ensures (omega arith)

pub returns : goal.returns
returns c = prefix_head (rw c.if-x.false at c.in_ok-x.ensures) c.skip_blanks-end.ensures c.put.ensures (omega arith)
