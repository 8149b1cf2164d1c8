-- `packing::one_more` meets its contract.
use borrow.Author.Rules.{rules}
use mathlib.Core.Path.{sym, ap}
use mathlib.Core.Bool.{cond}
use Prim.Native.Nat.{◌+◌}
use Rattle.packed_steps.proofs.one_more.Goals as goal

pub returns-then-some : goal.returns-then-some
returns-then-some c =
    let a = c.args in
    ap (λ b. cond b (a.many + 1) a.many) (sym c.if-some.true)

pub returns-else-some : goal.returns-else-some
returns-else-some c =
    let a = c.args in
    ap (λ b. cond b (a.many + 1) a.many) (sym c.if-some.false)
