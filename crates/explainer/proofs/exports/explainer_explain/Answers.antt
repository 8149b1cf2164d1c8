-- `explainer_explain` meets its contract: what `explain` promises, said in numbers.
use borrow.Author.Rules.{rules}
use Rattle.explainer.proofs.Returning.{returned}
use Rattle.explainer.proofs.exports.explainer_explain.Goals as goal

pub returns : goal.returns
returns c =
    let told = c.explain-reply in record { returned = returned told.ensures c.explain_answer-answer.ensures c.explain_values-values.ensures; promised = (told.result, told.ensures) }
