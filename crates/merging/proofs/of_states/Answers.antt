-- `of_states` meets its contract: the blocks are copied one by one.
use mathlib.Core.Path.{◌≡◌, ◌∙◌}
use Prim.Native.Nat.{ℕ, ◌-◌, ◌<◌, ◌≤◌}
use native.Mathlib.Omega.{arith}
use lib.ListN.{length, get_or, length-set}
use Rattle.deterministic.specs.Sizes.{most_sets}
use Rattle.merging.proofs.Laws.Rounds.{copied_more, copied_all}
use Rattle.merging.proofs.of_states.Goals as goal

pub loop-k-init : goal.loop-k-init
loop-k-init c =
    (omega arith, omega arith, λ i h. absurd (omega arith))

pub loop-k-preserved : goal.loop-k-preserved
loop-k-preserved c =
    let l = c.loop-k in
    let a = c.args in
    let h = c.loop-k-test.true in (
      omega arith,
      length-set l.blocks l.k _ ∙ l.invariant.1,
      copied_more a.names.now l.blocks l.k (omega (arith, l.invariant.1)) l.invariant.2,
    )

pub returns : goal.returns
returns c =
    let l = c.loop-k in
    copied_all c.args.names.now l.blocks c.requires l.invariant.1 (λ i h. l.invariant.2 i (omega arith))
