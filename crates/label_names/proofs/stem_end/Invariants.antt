-- `stem_end` answers `stem_end`: the invariant is `StemSoFar`, what is left of the run.
use Rattle.lts.proofs.Laws.Stems.{StemSoFar}
use Rattle.label_names.proofs.stem_end.Given as goal

abbrev pub invariant-loop-n : goal.invariant-loop-n
invariant-loop-n l = StemSoFar l.text l.from l.n
