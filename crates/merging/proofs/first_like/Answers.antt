-- `first_like` meets its contract: no state passed is a block like it.
use borrow.Author.Rules.{rules}
use Prim.Native.Nat.{ℕ, ◌-◌, ◌<◌, ◌≤◌}
use native.Mathlib.Omega.{arith}
use lib.ListN.{get_or}
use Rattle.lts.proofs.Laws.Decides.{from_more}
use Rattle.merging.specs.inner.Alike.{IsBlock}
use Rattle.merging.proofs.first_like.Goals as goal

pub offset_bounds-old-k : goal.offset_bounds-old-k
offset_bounds-old-k c =
    let p = c.requires in
    omega (arith, p.1.0.few, p.1.1)

pub bounds-old-k : goal.bounds-old-k
bounds-old-k c =
    let p = c.requires in
    omega (arith, p.1.0.few, p.1.1)

pub loop-j-init : goal.loop-j-init
loop-j-init c =
    λ i h d. absurd (omega (arith, c.wide-j.ensures))

pub is_block-requires : goal.is_block-requires
is_block-requires c =
    let p = c.requires in
    (p.0, (p.1.0, (omega (arith, p.1.1), p.1.1)))

pub returns-then-is_block : goal.returns-then-is_block
returns-then-is_block c =
    record {
      within = omega arith;
      is = λ h. c.is_block.ensures.yes c.if-is_block.true;
      none_before = c.loop-j.invariant;
    }

pub loop-j-preserved : goal.loop-j-preserved
loop-j-preserved c =
    let l = c.loop-j in
    let a = c.args in
    from_more (λ i. IsBlock a.work.now a.marks.now a.old.now a.new.now a.many a.k i → ⊥) (get_or a.old.now a.k 0) l.j l.invariant
    (c.is_block.ensures.no c.if-is_block.false)

pub returns : goal.returns
returns c =
    record { within = omega arith; is = λ h. absurd (omega arith); none_before = λ i h d. c.loop-j.invariant i h (omega arith) }
