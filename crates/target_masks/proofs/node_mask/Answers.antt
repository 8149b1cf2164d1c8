-- `node_mask` meets its contract, by the kind of the node.
use mathlib.Core.Path.{ap, ◌∙◌}
use mathlib.Core.Bool.{cond, not}
use Prim.Native.Nat.{◌+◌, ◌^◌}
use lib.Bits.{bit_or}
use Rattle.target_masks.specs.inner.Masks.{bit_if}
use borrow.Author.Rules.{rules}
use Rattle.target_masks.proofs.node_mask.Goals as goal

pub returns-in-Or : goal.returns-in-Or
returns-in-Or c =
    rw c.in-Or.is

pub returns-in-Ex : goal.returns-in-Ex
returns-in-Ex c =
    let k = c.args.k in
    rw c.in-Ex.is (c.bit_if.ensures ∙ ap (λ b. bit_if b (k + 1)) c.meets.ensures)

pub returns-in-Ax : goal.returns-in-Ax
returns-in-Ax c =
    let a = c.args in
    rw c.in-Ax.is
    (c.all_steps.ensures ∙ ap (λ b. cond b (bit_if (not a.last) (a.k + 1)) (2 ^ a.end)) c.meets-in-Ax.ensures)

pub returns-in-Until : goal.returns-in-Until
returns-in-Until c =
    let a = c.args in
    rw c.in-Until.is (ap (λ m. bit_or m a.arm) c.stays.ensures)

pub returns-in-UntilThen : goal.returns-in-UntilThen
returns-in-UntilThen c =
    let k = c.args.k in
    let leaves = c.bit_if-in-UntilThen.ensures ∙ ap (λ b. bit_if b (k + 1)) c.in_set.ensures in
    rw c.in-UntilThen.is (λ i. bit_or (c.stays-in-UntilThen.ensures i) (leaves i))
