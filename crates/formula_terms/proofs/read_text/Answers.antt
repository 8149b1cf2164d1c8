-- `read_text` reads a whole text, or refuses it at the place where the reader does.
use mathlib.Core.Path.{sym, ◌∙◌}
use native.Mathlib.Omega.{arith}
use Rattle.formula_cursor.proofs.ReadingTexts.{text_blank, text-token, text_fails, text-whole, text-rest}
use Rattle.formula_terms.proofs.ReadingTerms.{marked-where, unmarked-where}
use Rattle.formula_terms.proofs.read_text.Goals as goal

pub returns-then-is_some : goal.returns-then-is_some
returns-then-is_some c =
    let s = c.args.text.now in
    text_blank s (marked-where s 0 32 c.mark.result c.mark.ensures (sym c.is_some.ensures ∙ c.if-is_some.true)).1

pub formula-requires : goal.formula-requires
formula-requires c =
    let s = c.args.text.now in
    let token = text-token s (unmarked-where s 0 32 c.mark.result c.mark.ensures (sym c.is_some.ensures ∙ c.if-is_some.false)) in
    (record { table = c.requires.0; short = c.requires.1; token = token }, record { below = omega arith; long = c.requires.2 })

pub returns-in-Err : goal.returns-in-Err
returns-in-Err c = text_fails c.args.text.now c.in-Err.ensures

pub returns-then-x-text : goal.returns-then-x-text
returns-then-x-text c = text-whole c.in-Ok.ensures c.if-x-text.true

pub returns-else-x-text : goal.returns-else-x-text
returns-else-x-text c = text-rest c.in-Ok.ensures c.if-x-text.false
