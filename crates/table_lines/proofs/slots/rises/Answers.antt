-- `rises` answers `rises_after`.
use mathlib.Core.Path.{◌≡◌, sym, ap, ◌∙◌}
use Prim.Native.Nat.{suc, ◌-◌}
use native.Mathlib.Omega.{arith}
use Rattle.lts.specs.inner.Slots.{rises_after}
use Rattle.tables.specs.inner.Access.{step_in}
use Rattle.table_lines.proofs.slots.rises.Goals as goal

pub returns-then-count-eq0 : goal.returns-then-count-eq0
unfolding rises_after
returns-then-count-eq0 c =
    ap (λ n. rises_after c.args.slots.now n (step_in c.args.t)) (sym c.if-count-eq0.true)

pub returns : goal.returns
unfolding rises_after
returns c =
    let a = c.args in
    let some : a.count ≡ suc (a.count - 1) = omega (arith, c.if-count-eq0.false) in
    let told = rw (c.from.ensures, c.from-2.ensures, c.from-3.ensures) at c.below.ensures in
    told ∙ ap (λ n. rises_after a.slots.now n (step_in a.t)) (sym some)
