-- `entry_count` meets its contract.
use mathlib.Core.Path.{sym}
use native.Mathlib.Omega.{arith}
use Rattle.verdict_text.proofs.Laws.Entries.{entries-count}
use Rattle.verdict_text.proofs.list.entry_count.Goals as goal

pub returns : goal.returns
returns c =
    record { value = sym (entries-count _); upper_bound = omega (arith, c.requires) }
