-- `holds_at_start` meets its contract: the flag of node 0 at the start.
use mathlib.Core.Bool.{false}
use lib.ListN.{length-replicate}
use Rattle.actl.specs.inner.Sizes.{node_positions}
use Rattle.labelling.proofs.Laws.Prepared.{root-at-start}
use Rattle.labelling.proofs.holds_at_start.Goals as goal

pub label_table-requires : goal.label_table-requires
label_table-requires c =
    record {
      holds_table = c.requires.holds_table;
      holds_formula = c.requires.holds_formula;
      flags_len = length-replicate node_positions false;
    }

pub returns : goal.returns
returns c =
    root-at-start _ _ c.requires.holds_table _ c.label_table.ensures _ c.start_state-start.ensures.count
