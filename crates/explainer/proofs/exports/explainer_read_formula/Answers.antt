-- `explainer_read_formula` meets its contract: what is said of the formula that was read, and what is left of its buffer.
use borrow.Author.Rules.{rules}
use Rattle.explaining.proofs.Answers.{said_of}
use Rattle.explainer.proofs.exports.explainer_read_formula.Goals as goal

pub returns : goal.returns
returns c =
    let read = c.read_formula in
    let said = said_of c.formula_answer-answer.ensures read.ensures.result_value in record { value = said.number_said; formula_after = read.ensures.formula_after; figure_after = said.figure_said }
