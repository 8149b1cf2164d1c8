-- `read_text_over` answers and leaves what reading the text over the table's names gives.
use Rattle.actl.specs.inner.Readers.{names_in}
use Rattle.formula_text.proofs.ReadingEntry.{long-text, refused-text, whole-text}
use Rattle.formula_text.proofs.read_text_over.Goals as goal

pub returns-then-text-gt-LONGEST_TEXT : goal.returns-then-text-gt-LONGEST_TEXT
returns-then-text-gt-LONGEST_TEXT c =
    let a = c.args in
    long-text (names_in a.table.now) a.text.now a.formula.now c.if-text-gt-LONGEST_TEXT.true

pub answer-requires : goal.answer-requires
answer-requires c = (c.in-Ok.ensures.long, c.requires.1)

pub returns-in-Err : goal.returns-in-Err
returns-in-Err c =
    let a = c.args in
    refused-text (names_in a.table.now) a.text.now a.formula.now c.if-text-gt-LONGEST_TEXT.false _ c.in-Err.ensures

pub returns-in-Ok : goal.returns-in-Ok
returns-in-Ok c =
    let a = c.args in
    whole-text (names_in a.table.now) a.text.now a.formula.now c.if-text-gt-LONGEST_TEXT.false c.in-Ok.ensures c.answer.ensures
