-- `explainer_build` meets its contract: what is said of the listing, what is left of both buffers, and the count of edges.
use borrow.Author.Rules.{rules}
use Rattle.explaining.proofs.Answers.{said_of, kept_of}
use Rattle.explainer.proofs.exports.explainer_build.Goals as goal

pub returns : goal.returns
returns c =
    let said = said_of c.build_answer-answer.ensures c.build-reply.ensures.result_value in
    let edges = kept_of (λ counts. counts.edges) c.args.count.now c.build_edges.ensures c.build-reply.ensures.result_value in
    record { value = said.number_said; rows_after = c.build-reply.ensures.rows_after; edges_after = c.build-reply.ensures.edges_after; figure_after = said.figure_said; count_after = edges }
