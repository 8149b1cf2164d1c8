-- `explainer_verdict` meets its contract: what is said of the verdict.
use borrow.Author.Rules.{rules}
use Rattle.explaining.proofs.Answers.{said_of}
use Rattle.explainer.proofs.exports.explainer_verdict.Goals as goal

pub returns : goal.returns
returns c =
    let said = said_of c.verdict_answer-answer.ensures c.verdict.ensures.result_value in record { value = said.number_said; figure_after = said.figure_said }
