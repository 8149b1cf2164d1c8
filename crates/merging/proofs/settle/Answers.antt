-- `settle` meets its contract: each turn starts behind r rounds.
use mathlib.Core.Path.{◌≡◌, ap, ◌∙◌}
use mathlib.Core.Bool.{Bool}
use mathlib.Core.List.{List}
use Prim.Native.Nat.{ℕ, ◌+◌, ◌-◌, ◌≤◌}
use native.Mathlib.Omega.{arith}
use lib.ListN.{take}
use Rattle.deterministic.specs.inner.Blocks.{Table, refined}
use Rattle.deterministic.specs.inner.Arrays.{array_table}
use Rattle.merging.specs.inner.Rounds.{Named, Ended}
use Rattle.packed_steps.specs.inner.Packed.{Packed, Sized}
use Rattle.merging.specs.inner.Alike.{Ready}
use Rattle.merging.proofs.Laws.Looked.{packed_ready}
use Rattle.merging.proofs.Laws.Rounds.{ended-start, refined-start, refined-named, refined-more, merged_early, merged_late}
use Rattle.merging.proofs.settle.Invariants.{Behind}
use Rattle.merging.proofs.settle.Goals as goal

pub overflow_cast-here : goal.overflow_cast-here
overflow_cast-here c =
    let sized : Sized c.requires.by_index.0 c.args.n c.requires.by_index.1 = c.requires.by_index.2.0 in
    omega (arith, (sized).few)

pub overflow_cast-there : goal.overflow_cast-there
overflow_cast-there c =
    let sized : Sized c.requires.by_index.0 c.args.n c.requires.by_index.1 = c.requires.by_index.2.0 in
    omega (arith, (sized).few)

pub loop-r-init : goal.loop-r-init
loop-r-init c =
    let a = c.args in (
      omega arith,
      ended-start a.n,
      ended-start a.n,
      λ next columns s p. refined-start (array_table next a.marks.now a.n columns) 257 256 a.n (omega (arith, s.few)) s.few,
    )

pub round-requires : goal.round-requires
round-requires c =
    let t : Table = let a = c.args in array_table c.requires.by_index.0 a.marks.now a.n c.requires.by_index.1 in
    let sized : Sized c.requires.by_index.0 c.args.n c.requires.by_index.1 = c.requires.by_index.2.0 in
    let packed : Packed c.requires.by_index.0 c.args.n c.requires.by_index.1 c.args.work.now c.args.many = c.requires.by_index.2.1 in
    let ready : (names : List ℕ) → Ended c.args.n names → Ready c.args.work.now c.args.n c.args.many names = λ names e. let a = c.args in
    packed_ready c.requires.by_index.0 a.n c.requires.by_index.1 a.work.now a.many sized packed names c.requires.work_length_in_bounds e in
    let named : (names : List ℕ) (r : ℕ) → Behind c.args.work.now c.args.marks.now c.args.n c.args.many names r → Named c.args.n names = λ names r f.
    refined-named t names r (f c.requires.by_index.0 c.requires.by_index.1 sized packed) in
    let l = c.loop-r in
    (ready l.here l.invariant.1, (named l.here l.r l.invariant.3, l.invariant.2))

pub returns-then-round : goal.returns-then-round
returns-then-round c =
    let l = c.loop-r in
    let a = c.args in
    let h = c.loop-r-test.true in record {
      by_index_2 = λ next columns s p.
          merged_early (array_table next a.marks.now a.n columns) l.here l.r (l.invariant.3 next columns s p)
          ((c.round.ensures.by_index next columns s p).same.yes c.if-round.true) (omega (arith, h));
      result_len = l.invariant.1.whole;
    }

pub round-requires-in-loop-r : goal.round-requires-in-loop-r
round-requires-in-loop-r c =
    let t : Table = let a = c.args in array_table c.requires.by_index.0 a.marks.now a.n c.requires.by_index.1 in
    let sized : Sized c.requires.by_index.0 c.args.n c.requires.by_index.1 = c.requires.by_index.2.0 in
    let packed : Packed c.requires.by_index.0 c.args.n c.requires.by_index.1 c.args.work.now c.args.many = c.requires.by_index.2.1 in
    let ready : (names : List ℕ) → Ended c.args.n names → Ready c.args.work.now c.args.n c.args.many names = λ names e. let a = c.args in
    packed_ready c.requires.by_index.0 a.n c.requires.by_index.1 a.work.now a.many sized packed names c.requires.work_length_in_bounds e in
    let named : (names : List ℕ) (r : ℕ) → Behind c.args.work.now c.args.marks.now c.args.n c.args.many names r → Named c.args.n names = λ names r f.
    refined-named t names r (f c.requires.by_index.0 c.requires.by_index.1 sized packed) in
    let there : List ℕ = c.round.new.new in
    let one_more : Behind c.args.work.now c.args.marks.now c.args.n c.args.many there (c.loop-r.r + 1) = λ next columns s p.
    refined-more (array_table next c.args.marks.now c.args.n columns) c.loop-r.here there c.loop-r.r (c.loop-r.invariant.3 next columns s p)
    (c.round.ensures.by_index next columns s p).made in
    let l = c.loop-r in
    (ready (there) c.round.ensures.ended, (named (there) (l.r + 1) (one_more), l.invariant.1))

pub returns-then-round-2 : goal.returns-then-round-2
returns-then-round-2 c =
    let there : List ℕ = c.round.new.new in
    let one_more : Behind c.args.work.now c.args.marks.now c.args.n c.args.many there (c.loop-r.r + 1) = λ next columns s p.
    refined-more (array_table next c.args.marks.now c.args.n columns) c.loop-r.here there c.loop-r.r (c.loop-r.invariant.3 next columns s p)
    (c.round.ensures.by_index next columns s p).made in
    let l = c.loop-r in
    let a = c.args in
    let h = c.loop-r-test.true in record {
      by_index_2 = λ next columns s p.
          merged_early (array_table next a.marks.now a.n columns) (there) (l.r + 1) (one_more next columns s p)
          ((c.round-in-loop-r.ensures.by_index next columns s p).same.yes c.if-round-2.true) (omega (arith, h));
      result_len = c.round.ensures.ended.whole;
    }

pub loop-r-preserved : goal.loop-r-preserved
loop-r-preserved c =
    let there : List ℕ = c.round.new.new in
    let one_more : Behind c.args.work.now c.args.marks.now c.args.n c.args.many there (c.loop-r.r + 1) = λ next columns s p.
    refined-more (array_table next c.args.marks.now c.args.n columns) c.loop-r.here there c.loop-r.r (c.loop-r.invariant.3 next columns s p)
    (c.round.ensures.by_index next columns s p).made in
    let l = c.loop-r in
    let a = c.args in
    let here = c.round-in-loop-r.new.new in
    let two : l.r + 1 + 1 ≡ l.r + 2 = omega arith in (
      omega (arith, c.loop-r-test.true),
      c.round-in-loop-r.ensures.ended,
      c.round.ensures.ended,
      λ next columns s p.
          let t = array_table next a.marks.now a.n columns in
          refined-more t (there) here (l.r + 1) (one_more next columns s p) (c.round-in-loop-r.ensures.by_index next columns s p).made ∙ ap (refined t) two,
    )

pub returns : goal.returns
returns c =
    let l = c.loop-r in
    let a = c.args in record {
      by_index_2 = λ next columns s p.
          merged_late (array_table next a.marks.now a.n columns) l.here l.r (l.invariant.3 next columns s p) c.loop-r-test.false;
      result_len = l.invariant.1.whole;
    }
