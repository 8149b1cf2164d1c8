-- `mark` takes a byte of the text: 256, which stands for the end, is none.
use mathlib.Core.Path.{refl, ◌∙◌}
use native.Mathlib.Omega.{arith}
use Rattle.formula_cursor.proofs.ReadingPlaces.{get_d_any, none-at-end, other_byte}
use Rattle.formula_cursor.proofs.Cursor.mark.Goals as goal
use Rattle.formula_cursor.proofs.Cursor.mark.Goals.{else-at-text-via-then-at-text+else-text-at, else-at-text-via-else-at-text}

pub returns-then-text-at : goal.returns-then-text-at
returns-then-text-at c =
    let a = c.args in
    record { here = get_d_any a.text.now a.self.at 256 0 (omega arith) ∙ c.if-text-at.true; next = refl; within = omega arith }

pub returns : goal.returns
returns c =
    let a = c.args in
    elim c.else-at-text.branch [
      | else-at-text-via-then-at-text+else-text-at w ↦ other_byte a.text.now a.self.at a.mark (omega arith) w.if-text-at.false
      | else-at-text-via-else-at-text w ↦ none-at-end a.text.now a.self.at a.mark w.if-at-text.false c.ranges.mark.fits
    ]
