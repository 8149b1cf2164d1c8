-- `with_place` meets its contract: the shifted bit fits.
use mathlib.Core.Path.{◌≡◌, sym, ap, ◌∙◌}
use Prim.Native.Nat.{◌*◌, ◌%◌, ◌^◌}
use native.Mathlib.Nat.{one-mul}
use native.Mathlib.Omega.{arith}
use lib.Bits.{bit_or, or_zero_r}
use lib.Pow.{shl_exact}
use borrow.Author.Rules.{rules}
use Rattle.target_masks.specs.inner.Masks.{bit_if}
use Rattle.set_steps.proofs.finals.with_place.Goals as goal

pub returns-then-wanted : goal.returns-then-wanted
returns-then-wanted c =
    let a = c.args in
    let bit : (1 * 2 ^ a.k) % 2 ^ 64 ≡ 2 ^ a.k = shl_exact 1 a.k 64 (omega arith) (omega arith) ∙ one-mul _ in
    ap (bit_or a.mask) bit ∙ ap (λ w. bit_or a.mask (bit_if w a.k)) (sym c.if-wanted.true)

pub returns-else-wanted : goal.returns-else-wanted
returns-else-wanted c =
    let a = c.args in
    sym (ap (λ w. bit_or a.mask (bit_if w a.k)) c.if-wanted.false ∙ or_zero_r a.mask)
