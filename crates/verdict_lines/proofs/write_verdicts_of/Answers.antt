-- `write_verdicts_of` meets its contract: the lines of what was read, with the length that was counted.
use borrow.Author.Rules.{rules}
use mathlib.Core.Path.{ap, ◌∙◌, subst}
use mathlib.Core.List.{List}
use Prim.Native.Nat.{ℕ, min}
use native.Mathlib.Omega.{arith}
use lib.ListN.{take, length-take}
use Rattle.explanations.specs.inner.Sizes.{kept_length}
use Rattle.explanations.specs.inner.Printed.{TextWritten}
use Rattle.verdict_text.specs.VerdictsText.{entries_in, listed_verdicts}
use Rattle.verdict_text.specs.inner.Sizes.{list_length}
use Rattle.verdict_lines.specs.inner.FileLines.{counted_lines, file_lines}
use Rattle.verdict_lines.proofs.write_verdicts_of.Goals as goal

pub slice_bounds-list-end : goal.slice_bounds-list-end
slice_bounds-list-end c =
    let a = c.args in
    omega (arith, c.min.ensures, length-take c.min.result a.list.now)

pub write_lines-requires : goal.write_lines-requires
write_lines-requires c =
    let a = c.args in
    (omega (arith, c.min.ensures, length-take c.min.result a.list.now), search rules)

pub returns : goal.returns
unfolding file_lines
returns c =
    let a = c.args in
    let long = c.text_length-length in
    let text = c.kept_text-text.ensures ∙ ap (λ k. take (min k kept_length) a.head.now) long.ensures in
    let listed = c.min.ensures in
    let written = c.write_lines in record {
      text_written = subst (λ (l : List ℕ). TextWritten l a.out.now written.new.out written.result)
          (λ i. counted_lines (long.ensures i) (listed_verdicts a.tablefile.now (text i) (entries_in (take (listed i) a.list.now))))
          written.ensures.text_written;
      prefix_length = written.ensures.prefix_length;
    }
