-- `put_row` meets its contract.
use native.Mathlib.Omega.{arith}
use Rattle.labelling.proofs.Laws.Rows.{row-put}
use Rattle.labelling.proofs.nodes.put_row.Goals as goal

pub returns : goal.returns
returns c =
    let a = c.args in
    rw c.copy_from_slice.ensures.after (row-put a.k a.found.now a.flags.now c.requires.k_lt_most_nodes c.requires.flags_len c.told-found _ (omega arith))
