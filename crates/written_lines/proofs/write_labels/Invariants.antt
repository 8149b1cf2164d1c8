-- `write_labels` meets its contract: one line more stands there each turn.
use Prim.Native.Nat.{◌+◌, ◌*◌, ◌-◌, ◌≤◌}
use Rattle.written_lines.specs.inner.Lines.{label_width}
use Rattle.written_lines.proofs.Laws.Growing.{LabelsBelow}
use Rattle.written_lines.proofs.write_labels.Given as goal

abbrev pub invariant-loop-k : goal.invariant-loop-k
invariant-loop-k l = LabelsBelow l.table l.initial.text l.at l.k l.text l.end × (l.k ≤ l.count) × (l.end ≤ l.at + l.k * label_width)
