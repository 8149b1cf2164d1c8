-- `packing::pack_column` meets its contract: state by state.
use borrow.Author.Rules.{rules}
use mathlib.Core.Path.{◌≡◌, ap, ◌∙◌}
use mathlib.Core.Bool.{false}
use Prim.Native.Nat.{◌+◌, ◌-◌, ◌*◌, ◌≤◌}
use native.Mathlib.Omega.{arith}
use Rattle.deterministic.specs.Sizes.{most_letters}
use Rattle.packed_steps.specs.inner.Packed.{Nowhere, ColumnTo, target_in}
use Rattle.packed_steps.proofs.Laws.Packing.{column-start, column-more, column_done, target-read, nowhere-more}
use Rattle.packed_steps.proofs.pack_column.Goals as goal

pub loop-k-init : goal.loop-k-init
loop-k-init c =
    let a = c.args in
    (omega arith, column-start a.next.now a.n a.c a.i a.work.now, λ e l h. absurd (omega arith))

pub put_entry-requires : goal.put_entry-requires
put_entry-requires c =
    let l = c.loop-k in record { p_bound = (omega arith, omega (arith, l.invariant.1.long)); x_bound = omega (arith, c.target_in.ensures.upper_bound) }

pub loop-k-preserved : goal.loop-k-preserved
loop-k-preserved c =
    let l = c.loop-k in
    let a = c.args in
    let to = c.wide-to in
    let read = target-read a.next.now a.n (l.k * most_letters + a.c) to.result (omega arith) to.ensures in
    let target = c.target_in in (
      omega arith,
      column-more a.next.now a.n a.c a.i a.work.now l.k target.result l.work _ l.invariant.1
          (target.ensures.value ∙ ap (target_in a.n) read) c.put_entry.ensures,
      nowhere-more a.next.now a.n a.c l.k to.result l.some c.leads-some.result l.invariant.2 read c.leads-some.ensures,
    )

pub shape_of-work : goal.shape_of-work
shape_of-work c =
    c.loop-k.invariant.1.long

pub returns : goal.returns
returns c =
    let l = c.loop-k in
    let a = c.args in record { column_to = column_done a.next.now a.n a.c a.i a.work.now l.k l.work (omega arith) l.invariant.1; nowhere = λ e i h. l.invariant.2 e i (omega arith) }
