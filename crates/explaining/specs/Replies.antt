-- The values, or the number and the figure, of each case that `explain` answers.
use Rattle.std.specs.Prelude.{Result, Ok, Err}
use Rattle.lts.specs.Reply.{Reply, accepted, refusal}
use Rattle.replies.specs.declared.Answer.{Answer}
use Rattle.explaining.specs.declared.explained.Explained.{Explained}
use Rattle.explanations.specs.Explanation.{Summary}

abbrev pub explain_reply : Result Explained Answer → Reply Summary
explain_reply (Ok x) = accepted (record { verdict = x.verdict; class = x.class; rows = x.rows; edges = x.edges })
explain_reply (Err a) = refusal a.number a.figure
