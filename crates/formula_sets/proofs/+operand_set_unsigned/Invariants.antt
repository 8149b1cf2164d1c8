-- The measures of the readers of sets: the unread bytes, then their rank. A set begins with an operand, and an operand, behind its signs, with one without.
use Rattle.std.proofs.Common.{◌-◌, length}
use Rattle.actl.specs.inner.Readers.{names_in}
use Rattle.formula_sets.proofs.ReaderCycles.{unread}
use Rattle.formula_sets.proofs.ReadingSets.{Pending}
use Rattle.formula_sets.proofs.+operand_set_unsigned.Given as goal

abbrev pub decreases-unsigned : goal.decreases-unsigned
decreases-unsigned l = unread 3 0 l.source.now.text.now l.c.at

abbrev pub decreases-operand : goal.decreases-operand
decreases-operand l = unread 3 1 l.source.now.text.now l.c.at

abbrev pub decreases-set : goal.decreases-set
decreases-set l = unread 3 2 l.source.now.text.now l.c.at

-- The operands so far, behind the last `|`.
abbrev pub invariant-set-loop-x : goal.invariant-set-loop-x
invariant-set-loop-x l = Pending (names_in l.source.table.now) l.source.text.now l.initial.d.at l.fn.lost l.d.at l.mask l.lacks

abbrev pub decreases-set-loop-x : goal.decreases-set-loop-x
decreases-set-loop-x l = length l.source.text.now - l.d.at
