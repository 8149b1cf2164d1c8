-- `explainer_read_table` meets its contract: what is said of the table that was read, and what is left of its buffer.
use borrow.Author.Rules.{rules}
use Rattle.explaining.proofs.Answers.{said_of}
use Rattle.explainer.proofs.exports.explainer_read_table.Goals as goal

pub returns : goal.returns
returns c =
    let read = c.read_table in
    let said = said_of c.table_answer-answer.ensures read.ensures.result_value in record { value = said.number_said; table_after = read.ensures.table_after; figure_after = said.figure_said }
