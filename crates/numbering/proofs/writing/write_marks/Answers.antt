-- `writing::write_marks` meets its contract: what is left of the rows leads to the bytes at the end.
use borrow.Author.Rules.{rules}
use mathlib.Core.Path.{◌≡◌, refl, ap, ◌∙◌}
use mathlib.Core.List.{[], ◌∷◌, map}
use Prim.Native.Nat.{◌+◌, ◌-◌, ◌≤◌}
use native.Mathlib.Omega.{arith}
use lib.ListN.{length, get_or, take, length-map, length-set}
use lib.Seq.{length-take-le, slice}
use Rattle.columns.specs.inner.Write.{pasted}
use Rattle.columns.proofs.Laws.Pasted.{set-pasted}
use Rattle.numbering.specs.inner.Written.{mark_of, marks_of}
use Rattle.numbering.proofs.Laws.Puts.{put_as, Left, left-start, left_as, part_room, left_after, left_done, marks_turn, marks_over}
use Rattle.numbering.proofs.writing.write_marks.Goals as goal

pub loop-i-init : goal.loop-i-init
loop-i-init c =
    let a = c.args in
    let all = marks_of a.marks.now a.rows.now a.count in
    let long = length-map (take a.count a.rows.now) (mark_of a.marks.now) in
    let few = length-take-le a.count a.rows.now (omega (arith, c.requires.rows_len.0, c.requires.rows_len.1.0)) in
    (omega arith, refl, left-start all a.out.now 4 (omega (arith, long, few, c.requires.rows_len.1.1)))

pub bounds-marks-block : goal.bounds-marks-block
bounds-marks-block c =
    omega (arith, c.wide-block.ensures, c.requires.by_index c.loop-i.i c.loop-i-test.true)

pub bounds-out-i : goal.bounds-out-i
bounds-out-i c =
    omega (arith, c.loop-i-test.true, c.loop-i.invariant.1, c.requires.rows_len.1.1)

pub loop-i-preserved : goal.loop-i-preserved
loop-i-preserved c =
    let l = c.loop-i in
    let a = c.args in
    let there = c.loop-i-test.true in
    let mark = mark_of a.marks.now (get_or a.rows.now l.i 0) in
    let rest = map (mark_of a.marks.now) (slice (l.i + 1) a.count a.rows.now) in
    let mark-is : c.bit.result ≡ mark = c.bit.ensures ∙ ap (mark_of a.marks.now) c.wide-block.ensures in
    let left = left_as (marks_turn a.marks.now a.rows.now l.i a.count there (omega (arith, c.requires.rows_len.0, c.requires.rows_len.1.0))) l.invariant.2 in
    let put = set-pasted l.out (4 + l.i) c.bit.result (omega (arith, part_room (mark ∷ []) rest left)) in (
      omega (arith, there),
      length-set l.out (4 + l.i) c.bit.result ∙ l.invariant.1,
      left_after (mark ∷ []) rest left (put_as (ap (λ b. b ∷ []) mark-is) (record { is = put; ends = omega arith })),
    )

pub shape_of-out : goal.shape_of-out
shape_of-out c =
    c.loop-i.invariant.1

pub returns : goal.returns
returns c =
    let a = c.args in
    let l = c.loop-i in
    (left_done (marks_over a.marks.now a.rows.now l.i a.count c.loop-i-test.false (omega (arith, c.requires.rows_len.0, c.requires.rows_len.1.0))) l.invariant.2).0
