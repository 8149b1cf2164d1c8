-- `writing::letter` meets its contract, by whether the column is the last.
use borrow.Author.Rules.{rules}
use mathlib.Core.Path.{◌≡◌, sym}
use Prim.Native.Nat.{suc, ◌<◌}
use native.Mathlib.Omega.{arith}
use Rattle.block_numbers.proofs.Laws.Columns.{letter_last, letter_before}
use Rattle.numbering.proofs.writing.letter.Goals as goal

pub returns-then-c-columns : goal.returns-then-c-columns
returns-then-c-columns c =
    let a = c.args in
    let last : suc a.c ≡ a.columns = omega (arith, c.if-c-columns.true) in record { value = sym (letter_last a.columns a.c last); upper_bound = omega arith }

pub returns-else-c-columns : goal.returns-else-c-columns
returns-else-c-columns c =
    let a = c.args in
    let other : suc a.c < a.columns = omega (arith, c.if-c-columns.false, c.requires.0) in
    record { value = sym (letter_before a.columns a.c other); upper_bound = omega (arith, c.requires.0, c.requires.1) }
