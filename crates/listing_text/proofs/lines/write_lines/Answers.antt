-- `write_lines` meets its contract: one line more stands there each turn.
use Prim.Native.Nat.{◌+◌, ◌*◌}
use native.Mathlib.Omega.{arith}
use lib.ListN.{length, take}
use Rattle.columns.specs.Lines.{numbers_line}
use Rattle.explanations.proofs.Printing.{lines_none}
use Rattle.listing_text.proofs.Laws.Lines.{places-left, line-ends, line-more, lines-written}
use Rattle.listing_text.proofs.lines.write_lines.Goals as goal

pub loop-i-init : goal.loop-i-init
loop-i-init g c =
    let a = c.args in
    (omega arith, omega arith, λ line says. lines_none line (a.width * 6 + 1) a.out.now a.at (omega (arith, c.requires.room)))

pub numbers-requires : goal.numbers-requires
numbers-requires g c = c.requires.asked c.loop-i.i c.loop-i-test.true

pub write_numbers-end-requires : goal.write_numbers-end-requires
write_numbers-end-requires g c =
    let a = c.args in
    let l = c.loop-i in
    let behind = places-left (a.width * 6 + 1) a.at a.count l.i (length a.out.now) c.requires.room c.loop-i-test.true l.invariant.1 in
    (c.requires.few, omega (arith, behind, l.auto.out))

pub loop-i-preserved : goal.loop-i-preserved
loop-i-preserved g c =
    let a = c.args in
    let l = c.loop-i in
    let w = c.write_numbers-end in
    let wide = c.requires.wide l.i c.numbers.result c.loop-i-test.true c.numbers.ensures in
    let behind = places-left (a.width * 6 + 1) a.at a.count l.i (length a.out.now) c.requires.room c.loop-i-test.true l.invariant.1 in (
      omega (arith, c.loop-i-test.true),
      line-ends (a.width * 6 + 1) a.at l.i l.invariant.1 w.ensures.value wide,
      λ line says.
          line-more (l.invariant.2 line says) (numbers_line (take a.width c.numbers.result)) w.ensures.out_after w.ensures.value
          (says l.i c.numbers.result c.loop-i-test.true c.numbers.ensures) wide (omega (arith, behind)),
    )

pub returns : goal.returns
returns g c =
    let l = c.loop-i in
    λ line says. lines-written (l.invariant.2 line says) (omega (arith, l.invariant.0, c.loop-i-test.false))
