-- `copy_column` leaves the column of its number `pasted`: the six bytes that are kept of it.
use mathlib.Core.Path.{sym, ap, ◌∙◌}
use Prim.Native.Nat.{◌*◌}
use native.Mathlib.Omega.{arith}
use lib.ListN.{length-set}
use Rattle.columns.specs.inner.Write.{pasted}
use Rattle.columns.proofs.Laws.Kept.{six_bytes}
use Rattle.columns.proofs.Laws.Small.{six_set}
use Rattle.columns.proofs.kept.copy_column.Goals as goal

pub bounds-out-at-2 : goal.bounds-out-at-2
bounds-out-at-2 c =
    simp length-set (omega arith)

pub bounds-out-at-3 : goal.bounds-out-at-3
bounds-out-at-3 c =
    simp length-set (omega arith)

pub bounds-out-at-4 : goal.bounds-out-at-4
bounds-out-at-4 c =
    simp length-set (omega arith)

pub bounds-out-at-5 : goal.bounds-out-at-5
bounds-out-at-5 c =
    simp length-set (omega arith)

pub bounds-out-at-6 : goal.bounds-out-at-6
bounds-out-at-6 c =
    simp length-set (omega arith)

pub shape_of-out : goal.shape_of-out
shape_of-out c =
    simp length-set

pub returns : goal.returns
returns c =
    let a = c.args in
    let column-kept = c.requires.0 in
    six_set a.out.now a.at c.requires.1 _ _ _ _ _ _
    ∙ ap (pasted a.out.now a.at) (sym (six_bytes a.kept.now (a.n * 6) column-kept.there) ∙ column-kept.is)
