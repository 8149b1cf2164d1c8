-- The measures of the readers of formulas: the unread bytes, then their rank. A bracket begins with a formula, and that with a term.
use Rattle.std.proofs.Common.{◌-◌, length}
use Rattle.actl.specs.inner.Readers.{names_in}
use Rattle.formula_sets.proofs.ReaderCycles.{unread}
use Rattle.formula_terms.proofs.ReadingChains.{Awaiting}
use Rattle.formula_terms.proofs.+bracket_formula_term.Given as goal

abbrev pub decreases-term : goal.decreases-term
decreases-term l = unread 3 0 l.source.now.text.now l.c.at

abbrev pub decreases-formula : goal.decreases-formula
decreases-formula l = unread 3 1 l.source.now.text.now l.c.at

abbrev pub decreases-bracket : goal.decreases-bracket
decreases-bracket l = unread 3 2 l.source.now.text.now l.c.at

-- What the turns so far have read, which awaits a term.
abbrev pub invariant-formula-loop-x : goal.invariant-formula-loop-x
invariant-formula-loop-x l = Awaiting (names_in l.source.table.now) l.source.text.now l.initial.d.at l.n l.fn.lost l.initial.nodes l.d.at l.start l.k l.lacks l.nodes

abbrev pub decreases-formula-loop-x : goal.decreases-formula-loop-x
decreases-formula-loop-x l = length l.source.text.now - l.d.at
