-- `kept::clear_set` meets its contract: zeros stand where the masks stood.
use mathlib.Core.Path.{ap, ◌∙◌}
use mathlib.Core.List.{List, ◌++◌}
use Prim.Native.Nat.{ℕ}
use native.Mathlib.Omega.{arith}
use lib.ListN.{drop, replicate}
use lib.Seq.{length-take-le}
use Rattle.kept_sets.proofs.Laws.Kept.{zeros_before}
use Rattle.kept_sets.proofs.kept.clear_set.Goals as goal

pub returns : goal.returns
returns c =
    let a = c.args in
    let zeros = c.fill.ensures.after (λ y e. e) ∙ ap (λ n. replicate n 0) (length-take-le a.states a.set.now (omega arith)) in
    ap (λ (l : List ℕ). l ++ drop a.states a.set.now) zeros ∙ zeros_before a.states a.set.now c.requires.states_le_most_states c.requires.set
