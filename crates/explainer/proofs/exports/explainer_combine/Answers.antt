-- `explainer_combine` meets its contract: what is said of the tables that were combined, and what is left of the third buffer.
use borrow.Author.Rules.{rules}
use Rattle.explaining.proofs.Answers.{said_of}
use Rattle.explainer.proofs.exports.explainer_combine.Goals as goal

pub returns : goal.returns
returns c =
    let line = c.combine in
    let said = said_of c.combine_answer-answer.ensures line.ensures.result_value in record { value = said.number_said; combined_after = line.ensures.combined_after; figure_after = said.figure_said }
