-- `read_list` meets its contract: the entries below i stand in their places.
use Rattle.verdict_text.proofs.Laws.Entries.{ReadBelow}
use Rattle.verdict_text.proofs.list.read_list.Given as goal

abbrev pub invariant-loop-i : goal.invariant-loop-i
invariant-loop-i l = ReadBelow l.list l.starts l.i
