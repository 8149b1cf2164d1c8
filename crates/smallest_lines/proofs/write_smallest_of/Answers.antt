-- `write_smallest_of` meets its contract: the text of what was read, with the length that was counted.
use borrow.Author.Rules.{rules}
use mathlib.Core.Path.{ap, ◌∙◌, subst}
use mathlib.Core.List.{List}
use Prim.Native.Nat.{ℕ, min}
use lib.ListN.{take}
use Rattle.explanations.specs.inner.Sizes.{kept_length}
use Rattle.explanations.specs.inner.Printed.{TextWritten}
use Rattle.smallest_lines.specs.SmallestText.{lent_smallest}
use Rattle.smallest_lines.specs.inner.FileText.{counted_text, file_text}
use Rattle.smallest_lines.proofs.write_smallest_of.Goals as goal

pub returns : goal.returns
unfolding file_text
returns c =
    let a = c.args in
    let long = c.text_length-length in
    let text = c.kept_text-text.ensures ∙ ap (λ k. take (min k kept_length) a.head.now) long.ensures in
    let written = c.write_text in record {
      text_written = subst (λ (l : List ℕ). TextWritten l a.out.now written.new.out written.result)
          (λ i. counted_text (long.ensures i) (lent_smallest a.tablefile.now (text i))) written.ensures.text_written;
      prefix_length = written.ensures.prefix_length;
    }
