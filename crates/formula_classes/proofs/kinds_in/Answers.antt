-- `kinds_in` meets its contract: the loop fills the array from the front.
use mathlib.Core.Path.{◌≡◌, refl, ◌∙◌, subst}
use Prim.Native.Nat.{ℕ, ◌+◌, ◌*◌}
use native.Mathlib.Omega.{arith}
use lib.ListN.{get_or, take, length-set}
use Rattle.actl.specs.Sizes.{node_slot_length}
use Rattle.actl.specs.inner.Walk.{kinds_in}
use Rattle.actl.proofs.Laws.Lists.{filled_more}
use Rattle.formula_classes.proofs.kinds_in.Goals as goal

pub loop-k-init : goal.loop-k-init
loop-k-init c =
    (omega arith, refl, refl)

pub loop-k-preserved : goal.loop-k-preserved
loop-k-preserved c =
    let b = c.args.formula.now in
    let kinds = c.loop-k.kinds in
    let k = c.loop-k.k in
    let inv = c.loop-k.invariant in
    let kind : ℕ → ℕ = λ i. get_or b (1 + i * node_slot_length) 0 in
    (omega arith, length-set kinds k (kind k) ∙ inv.1, filled_more kind kinds k (omega arith) inv.2)

pub returns : goal.returns
returns c =
    let kinds = c.loop-k.kinds in
    let b = c.args.formula.now in
    let e : c.loop-k.k ≡ c.args.count = omega arith in
    subst (λ n. take n kinds ≡ kinds_in b n) e c.loop-k.invariant.2
