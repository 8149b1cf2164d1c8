-- `write_steps` meets its contract: one line more stands there each turn.
use mathlib.Core.Path.{◌≡◌}
use Prim.Native.Nat.{◌+◌, ◌*◌, ◌-◌, ◌≤◌}
use Rattle.written_lines.specs.inner.Lines.{step_width}
use Rattle.written_lines.proofs.Laws.Growing.{StepsBelow}
use Rattle.written_lines.proofs.write_steps.Given as goal

abbrev pub invariant-loop-k : goal.invariant-loop-k
invariant-loop-k l = StepsBelow l.table l.initial.text l.at l.k l.text l.end × (l.k ≤ l.count) × (l.end ≡ l.at + l.k * step_width)
