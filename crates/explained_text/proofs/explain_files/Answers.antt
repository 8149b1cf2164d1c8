-- `explain_files` meets its contract: the text of the reply, with the length that was counted.
use borrow.Author.Rules.{rules}
use mathlib.Core.Path.{ap, ◌∙◌, subst}
use mathlib.Core.List.{List}
use Prim.Native.Nat.{ℕ, min}
use native.Mathlib.Omega.{arith}
use lib.ListN.{take, replicate}
use Rattle.explanations.specs.inner.Sizes.{rows_length, edges_length}
use Rattle.explanations.specs.inner.Sizes.{kept_length}
use Rattle.explanations.specs.Printed.{printed, lent_explanation}
use Rattle.explanations.specs.inner.Printed.{with_length, TextWritten}
use Rattle.files.specs.inner.Files.{files_text}
use Rattle.explained_text.proofs.Replied.{few-counts, reply-text}
use Rattle.explained_text.proofs.explain_files.Goals as goal

pub write_reply-requires : goal.write_reply-requires
write_reply-requires c =
    few-counts c.args.tablefile.now c.kept_text-text.result.now (replicate rows_length 0) (replicate edges_length 0) c.explain_head-reply.ensures (omega arith) (omega arith)

pub returns : goal.returns
unfolding files_text
returns c =
    let a = c.args in
    let long = c.text_length-length in
    let is = reply-text a.tablefile.now c.kept_text-text.result.now (replicate rows_length 0) (replicate edges_length 0) c.explain_head-reply.ensures long.result in
    let text = c.kept_text-text.ensures ∙ ap (λ k. take (min k kept_length) a.head.now) long.ensures in
    let written = c.write_reply in record {
      text_written = subst (λ (l : List ℕ). TextWritten l a.out.now written.new.out written.result)
          (is ∙ (λ i. printed (with_length (long.ensures i) (lent_explanation a.tablefile.now (text i))))) written.ensures.text_written;
      prefix_length = written.ensures.prefix_length;
    }
