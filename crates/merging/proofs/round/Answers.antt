-- `round` meets its contract: state by state.
use borrow.Author.Rules.{rules}
use mathlib.Core.List.{List}
use Prim.Native.Nat.{ℕ, ◌-◌, ◌≤◌}
use native.Mathlib.Omega.{arith}
use Rattle.deterministic.specs.inner.Arrays.{array_table}
use Rattle.merging.specs.inner.Rounds.{Ended}
use Rattle.packed_steps.specs.inner.Packed.{Packed, Sized}
use Rattle.merging.proofs.Laws.Rounds.{Going, going_start, going_more, going_done, first-is, ended-stays}
use Rattle.merging.proofs.round.Goals as goal

pub loop-k-init : goal.loop-k-init
loop-k-init c =
    let a = c.args in
    let e = c.requires.1.1 in (
      omega arith,
      e,
      λ next columns s p. going_start (array_table next a.marks.now a.n columns) a.old.now a.new.now (omega (arith, e.whole, s.few)),
    )

pub first_like-block-requires : goal.first_like-block-requires
first_like-block-requires c =
    (c.args.n, (c.requires.0, c.loop-k-test.true))

pub overflow_cast-new : goal.overflow_cast-new
overflow_cast-new c =
    omega (arith, c.first_like-block.ensures.within, c.requires.0.few)

pub offset_bounds-new-k : goal.offset_bounds-new-k
offset_bounds-new-k c =
    omega (arith, c.requires.0.few)

pub bounds-new-k : goal.bounds-new-k
bounds-new-k c =
    omega (arith, c.requires.0.few)

pub offset_bounds-old-k : goal.offset_bounds-old-k
offset_bounds-old-k c =
    omega (arith, c.requires.0.few)

pub bounds-old-k : goal.bounds-old-k
bounds-old-k c =
    omega (arith, c.requires.0.few)

pub loop-k-preserved : goal.loop-k-preserved
loop-k-preserved c =
    let old-ended : Ended c.args.n c.args.old.now = let r = c.requires.0 in record { whole = r.whole; last = r.last } in
    let l = c.loop-k in
    let a = c.args in
    let x = c.first_like-block in
    let y = c.wide in
    let h = c.loop-k-test.true in (
      omega arith,
      ended-stays a.n l.new l.k x.result c.requires.0.few h l.invariant.1,
      λ next columns s p.
          let g = l.invariant.2 next columns s p in
          let block = first-is next a.marks.now a.n columns a.work.now a.many s p a.old.now (old-ended) l.new l.k x.result c.requires.1.0 h g.made x.ensures in
          going_more (array_table next a.marks.now a.n columns) a.old.now l.new l.k x.result y.result l.steady c.still-steady.result g h
          block y.ensures c.still-steady.ensures,
    )

pub returns : goal.returns
returns c =
    let l = c.loop-k in
    let a = c.args in record {
      by_index = λ next columns s p.
          going_done (array_table next a.marks.now a.n columns) a.old.now l.new l.k l.steady c.requires.1.0.long (l.invariant.2 next columns s p) c.loop-k-test.false;
      ended = l.invariant.1;
    }
