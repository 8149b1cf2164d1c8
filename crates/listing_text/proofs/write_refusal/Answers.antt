-- `write_refusal` meets its contract: one line of two numbers.
use mathlib.Core.Path.{◌∙◌}
use native.Mathlib.Nat.{zero-add}
use Rattle.explanations.specs.Printed.{refusal_line}
use Rattle.lts.proofs.Laws.Pasted.{pasted-start}
use Rattle.listing_text.proofs.write_refusal.Goals as goal

pub returns : goal.returns
returns c =
    let w = c.write_numbers in
    let a = c.args in
    record { is = w.ensures.out_after ∙ pasted-start a.out.now (refusal_line a.number a.figure); ends = w.ensures.value ∙ zero-add _ }
