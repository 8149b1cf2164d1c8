-- 01, "What the entries turn back", and 02's 20: the number and the figure of each case that `smallest` answers.
use Rattle.std.specs.Prelude.{suc, Result, Ok, Err}
use Rattle.lts.specs.Reply.{Reply, accepted, refusal}
use Rattle.formula_check.specs.Inputs.{unprepared}
use Rattle.automaton.specs.Build.{Counts}
use Rattle.automaton.specs.declared.Totals.{Totals}
use Rattle.deterministic.specs.Sizes.{most_sets}
use Rattle.smallest.specs.declared.SmallestRefusal.{SmallestRefusal}
use Rattle.smallest.specs.declared.SmallestRefusal.TheVariants as refused

abbrev pub smallest_reply : Result Totals SmallestRefusal → Reply Counts
smallest_reply (Ok t) = accepted (record { rows = t.rows; edges = t.edges })
smallest_reply (Err (refused.RowsShort needed)) = refusal 11 needed
smallest_reply (Err (refused.EdgesShort needed)) = refusal 12 needed
smallest_reply (Err refused.SetsMany) = refusal 20 (suc most_sets)
smallest_reply (Err (refused.Unprepared why)) = unprepared why
