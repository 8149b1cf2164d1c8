-- `write_small` leaves the column of its number `pasted`: two blanks, three figures, the last digit.
use mathlib.Core.Path.{sym, ap, ◌∙◌}
use mathlib.Core.List.{[], ◌∷◌}
use Prim.Native.Nat.{◌+◌, ◌%◌}
use native.Mathlib.Omega.{arith}
use lib.ListN.{length-set}
use Rattle.columns.specs.inner.Write.{pasted}
use Rattle.columns.proofs.Laws.Small.{small-column, six_set}
use Rattle.columns.proofs.write.write_small.Goals as goal

pub bounds-out-at-2 : goal.bounds-out-at-2
bounds-out-at-2 c =
    simp length-set (omega arith)

pub bounds-out-at-3 : goal.bounds-out-at-3
bounds-out-at-3 c =
    simp length-set (omega arith)

pub bounds-out-at-4 : goal.bounds-out-at-4
bounds-out-at-4 c =
    simp length-set (omega arith)

pub bounds-out-at-5 : goal.bounds-out-at-5
bounds-out-at-5 c =
    simp length-set (omega arith)

pub bounds-out-at-6 : goal.bounds-out-at-6
bounds-out-at-6 c =
    simp length-set (omega arith)

pub returns : goal.returns
returns c =
    let a = c.args in
    let thousands = c.leading-thousands.ensures in
    let hundreds = c.leading-hundreds.ensures in
    let tens = c.leading-tens.ensures in
    six_set a.out.now a.at c.requires.1 _ _ _ _ _ _
    ∙ (λ i. pasted a.out.now a.at (32 ∷ 32 ∷ thousands i ∷ hundreds i ∷ tens i ∷ (48 + a.n % 10) ∷ []))
    ∙ ap (pasted a.out.now a.at) (sym (small-column a.n c.requires.0))
