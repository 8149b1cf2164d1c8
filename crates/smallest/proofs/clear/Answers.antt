-- `clear` meets its contract: zeros stand where bytes stood.
use mathlib.Core.Path.{ap, ◌∙◌}
use mathlib.Core.List.{List, ◌++◌}
use Prim.Native.Nat.{ℕ}
use lib.ListN.{drop, replicate}
use lib.Seq.{length-take-le}
use Rattle.deterministic.specs.Sizes.{work_length}
use Rattle.deterministic.specs.SmallestAsked.{cleared}
use Rattle.smallest.proofs.Laws.Zeros.{zeros_before}
use Rattle.smallest.proofs.clear.Goals as goal

pub returns : goal.returns
unfolding cleared
returns c = zeros_before work_length c.args.work.now c.requires (c.fill.ensures.after (λ y e. e))
