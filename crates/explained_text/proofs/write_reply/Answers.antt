-- `write_reply` meets its contract: the listing, or the refusal's line, and no more bytes than the buffer has.
use borrow.Author.Rules.{rules}
use mathlib.Core.Path.{sym, subst}
use native.Mathlib.Omega.{arith}
use Rattle.explaining.specs.Replies.{explain_reply}
use Rattle.files.specs.inner.Writing.{Few, reply_text}
use Rattle.explanations.specs.inner.Printed.{TextWritten}
use Rattle.std.proofs.Common.{Result}
use Rattle.explaining.specs.declared.explained.Explained.{Explained}
use Rattle.replies.specs.declared.Answer.{Answer}
use Rattle.files.proofs.Counts.{written-counts}
use Rattle.explained_text.proofs.write_reply.Goals as goal

pub write_listing-requires : goal.write_listing-requires
write_listing-requires c =
    let few = subst (λ (r : Result Explained Answer). Few (explain_reply r)) c.in-Ok.is c.requires in
    record { row_length_in_bounds = (omega (arith, few.0), omega (arith, few.1), omega (arith, few.0)); edgecount_in_bounds = omega (arith, few.0, few.1) }

pub returns-in-Ok : goal.returns-in-Ok
returns-in-Ok c =
    let a = c.args in
    let call = c.write_listing in record {
      text_written = subst (λ (r : Result Explained Answer).
          TextWritten (reply_text (explain_reply r) a.length a.rows.now a.edges.now) a.out.now call.new.out call.result)
          (sym c.in-Ok.is) call.ensures;
      prefix_length = written-counts call.ensures call.auto.out;
    }

pub returns-in-Err : goal.returns-in-Err
returns-in-Err c =
    let a = c.args in
    let call = c.write_refused in record {
      text_written = subst (λ (r : Result Explained Answer).
          TextWritten (reply_text (explain_reply r) a.length a.rows.now a.edges.now) a.out.now call.new.out call.result)
          (sym c.in-Err.is) call.ensures;
      prefix_length = written-counts call.ensures call.auto.out;
    }
