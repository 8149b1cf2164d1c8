-- `keep_numbers` meets its contract: as many columns are kept as the larger of both counts asks for.
use native.Mathlib.Omega.{arith}
use Rattle.lts.specs.inner.Prepared.{table_in}
use Rattle.written_lines.proofs.Laws.Kept.{both-kept}
use Rattle.written_lines.proofs.keep_numbers.Goals as goal

pub returns : goal.returns
returns c =
    both-kept (table_in c.args.table.now) c.keep_columns.new.kept _ c.keep_columns.ensures
    (omega (arith, c.state_count.ensures.count)) (omega (arith, c.label_count.ensures.count))
