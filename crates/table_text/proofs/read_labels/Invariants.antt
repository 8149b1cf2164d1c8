-- `read_labels` reads every label: the invariant is `NamesSoFar`.
use mathlib.Core.Path.{◌≡◌}
use lib.ListN.{length}
use Rattle.lts.specs.inner.Sizes.{names_length}
use Rattle.table_text.proofs.Laws.Readings.{NamesSoFar}
use Rattle.table_lines.specs.inner.LineReplies.{header}
use Rattle.table_text.proofs.read_labels.Given as goal

abbrev pub invariant-loop-count : goal.invariant-loop-count
invariant-loop-count l = NamesSoFar (header l.fn.counts) l.text l.from l.names l.at l.count × (length l.names ≡ names_length)
