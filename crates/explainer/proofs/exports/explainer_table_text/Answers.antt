-- `explainer_table_text` meets its contract: what is said of the text that was written, and what is left of its buffer.
use borrow.Author.Rules.{rules}
use Rattle.explaining.proofs.Answers.{said_of}
use Rattle.explainer.proofs.exports.explainer_table_text.Goals as goal

pub returns : goal.returns
returns c =
    let line = c.table_text in
    let said = said_of c.text_answer-answer.ensures line.ensures.result_value in record { value = said.number_said; text_after = line.ensures.text_after; figure_after = said.figure_said }
