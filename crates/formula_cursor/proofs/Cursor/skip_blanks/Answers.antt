-- `skip_blanks` passes blanks only, and stops at none.
use native.Mathlib.Omega.{arith}
use Rattle.formula_cursor.proofs.ReadingPlaces.{more-gap}
use Rattle.formula_cursor.proofs.Cursor.skip_blanks.Goals as goal

pub loop-i-preserved : goal.loop-i-preserved
loop-i-preserved c =
    let a = c.args in
    let l = c.loop-i in
    (omega arith, omega arith, more-gap a.text.now a.self.at l.i l.invariant.0 (omega arith) c.if-text-i-eq32.true l.invariant.2)
