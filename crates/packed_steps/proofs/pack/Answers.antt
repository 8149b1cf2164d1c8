-- `packing::pack` meets its contract: column by column.
use mathlib.Core.Path.{◌≡◌, refl, ◌∙◌, subst}
use Prim.Native.Nat.{ℕ, ◌-◌, ◌≤◌}
use native.Mathlib.Omega.{arith}
use lib.ListN.{length, drop}
use Rattle.deterministic.specs.Sizes.{work_length}
use Rattle.packed_steps.specs.inner.Packed.{Packed}
use Rattle.packed_steps.proofs.Laws.Packing.{packed_none, packed_count}
use Rattle.packed_steps.proofs.pack.Goals as goal

pub loop-c-init : goal.loop-c-init
loop-c-init c =
    let a = c.args in
    (omega arith, packed_none a.next.now a.n a.work.now, refl, refl)

pub pack_column-requires : goal.pack_column-requires
pack_column-requires c =
    let l = c.loop-c.invariant in
    let p = c.requires in
    let h = c.loop-c-test.true in record { next_len = (p.0.whole, p.0.few); c_lt_most_letters = (omega (arith, p.0.few_columns), (omega (arith, l.1.few, p.0.few_columns), omega (arith, l.2, p.1))) }

pub one_more-many-requires : goal.one_more-many-requires
one_more-many-requires c =
    let p = c.requires in
    omega (arith, c.loop-c.invariant.1.few, c.loop-c-test.true, p.0.few_columns)

pub loop-c-preserved : goal.loop-c-preserved
loop-c-preserved c =
    let column = c.pack_column in
    let l = c.loop-c in
    let a = c.args in
    let g = column.ensures.column_to in
    let more = c.one_more-many in (
      omega arith,
      packed_count a.next.now a.n l.c l.many l.work _ l.invariant.1 g c.requires.0.few column.result more.result more.ensures column.ensures.nowhere,
      g.long ∙ l.invariant.2,
      g.behind ∙ l.invariant.3,
    )

pub shape_of-work : goal.shape_of-work
shape_of-work c =
    c.loop-c.invariant.2

pub returns : goal.returns
returns c =
    let l = c.loop-c in
    let a = c.args in
    let e : l.c ≡ a.columns = omega (arith, l.invariant.0) in
    record { packed = subst (λ (m : ℕ). Packed a.next.now a.n m l.work l.many) e l.invariant.1; work_len_unchanged = (l.invariant.2, l.invariant.3) }
