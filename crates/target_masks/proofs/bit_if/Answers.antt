-- `masks::bit_if` meets its contract: the shifted bit fits.
use borrow.Author.Rules.{rules}
use mathlib.Core.Path.{◌∙◌}
use native.Mathlib.Nat.{one-mul}
use native.Mathlib.Omega.{arith}
use lib.Pow.{shl_exact}
use Rattle.target_masks.proofs.bit_if.Goals as goal

pub returns-then-wanted : goal.returns-then-wanted
returns-then-wanted c =
    rw c.if-wanted.true (shl_exact 1 c.args.k 64 (omega arith) (omega arith) ∙ one-mul _)
