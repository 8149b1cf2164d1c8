-- `packing::put_entry` meets its contract: two bytes are written.
use borrow.Author.Rules.{rules}
use native.Mathlib.Omega.{arith}
use lib.ListN.{length-set}
use Rattle.packed_steps.proofs.Laws.Packing.{entry_put}
use Rattle.packed_steps.proofs.put_entry.Goals as goal

pub bounds-work-at-2 : goal.bounds-work-at-2
bounds-work-at-2 c =
    simp length-set (omega arith)

pub returns : goal.returns
returns c =
    let a = c.args in
    entry_put a.work.now a.p a.x c.requires.p_bound.0 c.requires.p_bound.1 c.requires.x_bound
