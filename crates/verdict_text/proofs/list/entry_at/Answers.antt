-- `entry_at` meets its contract: what the six columns hold.
use mathlib.Core.Path.{sym, ap, ◌∙◌}
use Prim.Native.Nat.{◌*◌}
use Rattle.std.specs.Prelude.{unwrap_or}
use Rattle.lts.specs.Sizes.{most_states}
use Rattle.verdict_text.proofs.Laws.Entries.{entry_of-column}
use Rattle.verdict_text.proofs.list.entry_at.Goals as goal

pub returns : goal.returns
returns c =
    let a = c.args in
    c.unwrap_or.ensures ∙ ap (λ o. unwrap_or o most_states) c.read_column.ensures ∙ sym (entry_of-column a.list.now (a.i * 6))
