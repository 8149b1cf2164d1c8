-- `explainer_smallest` meets its contract: what is said of the listing, what is left of the four buffers, and the count of edges.
use borrow.Author.Rules.{rules}
use Rattle.explaining.proofs.Answers.{said_of, kept_of}
use Rattle.explainer.proofs.exports.explainer_smallest.Goals as goal

pub returns : goal.returns
returns c =
    let said = said_of c.smallest_answer-answer.ensures c.smallest-reply.ensures.result_value in
    let edges = kept_of (λ counts. counts.edges) c.args.count.now c.smallest_edges.ensures c.smallest-reply.ensures.result_value in
    record {
      value = said.number_said;
      rows_after = c.smallest-reply.ensures.rows_after;
      edges_after =
          c.smallest-reply.ensures.edges_after;
      out_after = c.smallest-reply.ensures.out_after;
      work_after = c.smallest-reply.ensures.work_after;
      figure_after = said.figure_said;
      count_after = edges;
    }
