-- `explain_head` meets its contract: what `explain` promises, of buffers that are long enough.
use native.Mathlib.Omega.{arith}
use lib.ListN.{replicate}
use Rattle.actl.specs.Sizes.{formula_length}
use Rattle.lts.specs.Sizes.{table_length}
use Rattle.explained_text.proofs.Replied.{replied}
use Rattle.explained_text.proofs.explain_head.Goals as goal

pub returns : goal.returns
returns c =
    let a = c.args in
    replied a.tablefile.now a.text.now a.rows.now a.edges.now
    {table = replicate table_length 0} {formula = replicate formula_length 0} (omega arith) (omega arith) c.explain.ensures.outcome
