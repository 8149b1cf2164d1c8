-- `write_line_of` meets its contract: the line of what was read, with the length that was counted.
use borrow.Author.Rules.{rules}
use mathlib.Core.Path.{ap, ◌∙◌, subst}
use mathlib.Core.List.{List}
use Prim.Native.Nat.{ℕ, min}
use lib.ListN.{take}
use Rattle.explanations.specs.inner.Sizes.{kept_length}
use Rattle.explanations.specs.inner.Printed.{TextWritten}
use Rattle.formula_line.specs.LineText.{written_back}
use Rattle.formula_line.specs.inner.FileLine.{counted_line, file_line}
use Rattle.formula_line.proofs.write_line_of.Goals as goal

pub returns : goal.returns
unfolding file_line
returns c =
    let a = c.args in
    let long = c.text_length-length in
    let text = c.kept_text-text.ensures ∙ ap (λ k. take (min k kept_length) a.head.now) long.ensures in
    let written = c.write_line in record {
      text_written = subst (λ (l : List ℕ). TextWritten l a.out.now written.new.out written.result)
          (λ i. counted_line (long.ensures i) (written_back a.tablefile.now (text i))) written.ensures.text_written;
      prefix_length = written.ensures.prefix_length;
    }
