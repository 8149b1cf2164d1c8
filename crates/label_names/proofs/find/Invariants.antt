-- `find` answers `lookup` over the slots: the invariant is `SoughtFrom`, the slots that are left.
use Prim.Native.Nat.{◌-◌}
use Rattle.lts.proofs.Laws.Names.{SoughtFrom}
use Rattle.label_names.proofs.find.Given as goal

abbrev pub invariant-loop-k : goal.invariant-loop-k
invariant-loop-k l = SoughtFrom l.slots l.count l.name l.k
