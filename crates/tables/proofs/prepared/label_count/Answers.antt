-- `label_count` meets its contract: one name for each label.
use mathlib.Core.Path.{sym, ◌∙◌}
use Rattle.lts.proofs.Laws.Contents.{labels_in}
use Rattle.tables.proofs.prepared.label_count.Goals as goal

pub returns : goal.returns
returns c =
    record { count = c.byte.ensures.count ∙ sym (labels_in c.args.table.now); fits = c.byte.ensures.fits }
