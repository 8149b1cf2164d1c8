-- `explainer_verdicts` meets its contract: what is said of the list, and what is left of its buffer.
use borrow.Author.Rules.{rules}
use Rattle.explaining.proofs.Answers.{said_of}
use Rattle.explainer.proofs.exports.explainer_verdicts.Goals as goal

pub returns : goal.returns
returns c =
    let list = c.verdicts in
    let said = said_of c.verdicts_answer-answer.ensures list.ensures.result_value in record { value = said.number_said; answers_after = list.ensures.answers_after; figure_after = said.figure_said }
