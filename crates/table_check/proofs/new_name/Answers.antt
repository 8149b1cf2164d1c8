-- `new_name` meets its contract: the names before slot j are others than the one in slot k.
use native.Mathlib.Omega.{arith}
use borrow.Author.Count.{below_more}
use Rattle.lts.specs.inner.Prepared.{name_at}
use Rattle.lts.specs.inner.Range.{Differ}
use Rattle.lts.proofs.Laws.Decides.{decided_yes, decided_no}
use Rattle.table_check.proofs.new_name.Goals as goal

pub loop-j-init : goal.loop-j-init
loop-j-init c =
    (omega arith, λ i h. absurd (omega arith))

pub same_slot-requires : goal.same_slot-requires
same_slot-requires c =
    let few = c.requires.1.0 in
    let held = c.requires.1.1 in
    let earlier = c.loop-j-test.true in record
    { table_length_in_bounds = (c.requires.0, (omega (arith, few, earlier), few)); name_held = (held c.loop-j.j (omega (arith, earlier)), held c.args.k (omega arith)) }

pub returns-then-same_slot : goal.returns-then-same_slot
returns-then-same_slot c =
    decided_no (λ new. new c.loop-j.j c.loop-j-test.true (c.same_slot.ensures.yes c.if-same_slot.true))

pub loop-j-preserved : goal.loop-j-preserved
loop-j-preserved c =
    let b = c.args.table.now in (
      omega (arith, c.loop-j-test.true),
      below_more (λ i. Differ (name_at b i) (name_at b c.args.k)) c.loop-j.j c.loop-j.invariant.1
          (c.same_slot.ensures.no c.if-same_slot.false),
    )

pub returns : goal.returns
returns c =
    let inv = c.loop-j.invariant in
    decided_yes (λ i h. inv.1 i (omega (arith, inv.0, c.loop-j-test.false)))
