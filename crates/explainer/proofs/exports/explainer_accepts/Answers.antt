-- `explainer_accepts` meets its contract: what is said of the word.
use borrow.Author.Rules.{rules}
use Rattle.explaining.proofs.Answers.{said_of}
use Rattle.explainer.proofs.exports.explainer_accepts.Goals as goal

pub returns : goal.returns
returns c =
    let said = said_of c.word_answer-answer.ensures c.accepts.ensures.result_value in record { value = said.number_said; figure_after = said.figure_said }
