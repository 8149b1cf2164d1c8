-- `all_steps` meets its contract, by whether the condition is met.
use mathlib.Core.Path.{sym, ap, ◌∙◌}
use mathlib.Core.Bool.{cond, not}
use Prim.Native.Nat.{◌+◌, ◌^◌}
use Rattle.target_masks.specs.inner.Masks.{bit_if}
use borrow.Author.Rules.{rules}
use Rattle.target_masks.proofs.all_steps.Goals as goal

pub returns-then-met : goal.returns-then-met
returns-then-met c =
    let a = c.args in
    c.bit_if.ensures ∙ sym (ap (λ b. cond b (bit_if (not a.last) (a.k + 1)) (2 ^ a.end)) c.if-met.true)

pub returns-else-met : goal.returns-else-met
returns-else-met c =
    let a = c.args in
    c.bit_if-else-met.ensures ∙ sym (ap (λ b. cond b (bit_if (not a.last) (a.k + 1)) (2 ^ a.end)) c.if-met.false)
