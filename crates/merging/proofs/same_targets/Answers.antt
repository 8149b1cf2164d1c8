-- `same_targets` meets its contract: the columns passed lead to the same blocks.
use mathlib.Core.Path.{sym, ◌∙◌}
use Prim.Native.Nat.{◌-◌, ◌≤◌}
use native.Mathlib.Omega.{arith}
use Rattle.merging.specs.inner.Alike.{SameIn}
use Rattle.lts.proofs.Laws.Decides.{decided_yes, decided_no}
use Rattle.merging.proofs.Laws.Looked.{same_more}
use Rattle.merging.proofs.same_targets.Goals as goal

pub loop-i-init : goal.loop-i-init
loop-i-init c =
    (omega arith, λ i h. absurd (omega arith))

pub block_at-requires : goal.block_at-requires
block_at-requires c =
    let p = c.requires in
    let r = p.1.0 in
    let l = c.loop-i.i in
    let h = c.loop-i-test.true in record {
      k_in_bounds = omega (arith, r.few, r.few_columns, r.long, p.1.1.0);
      i_lt_most_letters =
          (omega (arith, r.few_columns), (omega (arith, r.few, p.1.1.0), r.small l _ h p.1.1.0));
    }

pub block_at-requires-in-loop-i : goal.block_at-requires-in-loop-i
block_at-requires-in-loop-i c =
    let p = c.requires in
    let r = p.1.0 in
    let l = c.loop-i.i in
    let h = c.loop-i-test.true in record {
      k_in_bounds = omega (arith, r.few, r.few_columns, r.long, p.1.1.1);
      i_lt_most_letters =
          (omega (arith, r.few_columns), (omega (arith, r.few, p.1.1.1), r.small l _ h p.1.1.1));
    }

pub returns-then-block_at : goal.returns-then-block_at
returns-then-block_at c =
    let x = c.block_at.ensures in
    let y = c.block_at-in-loop-i.ensures in
    decided_no (λ f. c.if-block_at.true (x ∙ (f c.loop-i.i c.loop-i-test.true ∙ sym y)))

pub loop-i-preserved : goal.loop-i-preserved
loop-i-preserved c =
    let a = c.args in
    let x = c.block_at in
    let y = c.block_at-in-loop-i in
    let l = c.loop-i in
    (omega arith, same_more a.work.now a.old.now l.i a.j a.k x.result y.result l.invariant.1 x.ensures y.ensures c.if-block_at.false)

pub returns : goal.returns
returns c =
    let l = c.loop-i in
    decided_yes (λ i h. l.invariant.1 i (omega arith))
