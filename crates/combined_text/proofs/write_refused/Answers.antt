-- `write_refused` meets its contract: one line of three numbers.
use borrow.Author.Rules.{rules}
use mathlib.Core.Path.{◌∙◌}
use native.Mathlib.Nat.{zero-add}
use Rattle.combined_text.specs.CombinedText.{refused_line}
use Rattle.lts.proofs.Laws.Pasted.{pasted-start}
use Rattle.combined_text.proofs.write_refused.Goals as goal

pub returns : goal.returns
returns c =
    let w = c.write_numbers in
    let a = c.args in
    record { is = w.ensures.out_after ∙ pasted-start a.out.now (refused_line a.file a.number a.figure); ends = w.ensures.value ∙ zero-add _ }
