-- `put_members` joins the names of the set's labels, label by label.
use lib.ListN.{take}
use Rattle.lts.specs.inner.Prepared.{table_in}
use Rattle.written_back.specs.FormulaText.{members, joined}
use Rattle.formula_pieces.specs.inner.Adds.{Adds}
use Rattle.formula_pieces.proofs.sets.put_members.Given as goal

abbrev pub invariant-loop-k : goal.invariant-loop-k
invariant-loop-k l = Adds (joined (members (take l.k (table_in l.table).names) l.set)) l.at l.initial.out l.out l.end
