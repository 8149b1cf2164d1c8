-- `read_transitions` reads every transition and the end of the text: the invariant is `TransitionsSoFar`.
use Rattle.table_text.proofs.Laws.Readings.{TransitionsSoFar}
use Rattle.table_text.proofs.read_transitions.Given as goal

abbrev pub invariant-loop-count : goal.invariant-loop-count
invariant-loop-count l = TransitionsSoFar l.counts l.text l.from l.slots l.at l.count
