-- `stays` meets its contract: the step passes by its label.
use mathlib.Core.Path.{ap, ◌∙◌}
use Rattle.target_masks.specs.inner.Masks.{bit_if}
use borrow.Author.Rules.{rules}
use Rattle.target_masks.proofs.stays.Goals as goal

pub returns : goal.returns
returns c =
    c.bit_if.ensures ∙ ap (λ b. bit_if b c.args.k) c.passes.ensures
