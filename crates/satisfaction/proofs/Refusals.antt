-- The verdict is refused with 10 exactly for foreign bytes.
use mathlib.Core.List.{List}
use Prim.Native.Nat.{ℕ}
use Rattle.lts.specs.Reply.{accepted}
use Rattle.actl.specs.Foreign.{RefusesForeign}
use Rattle.actl.proofs.Laws.Foreign.{refuses_foreign}
use Rattle.satisfaction.specs.inner.Holds.{verdict}
use Rattle.satisfaction.specs.VerdictAsked.{verdict_replied}

pub verdict_refuses_foreign : (table formula : List ℕ) → RefusesForeign table formula (verdict_replied table formula)
unfolding verdict_replied
verdict_refuses_foreign table formula = refuses_foreign table formula (λ t F. accepted (verdict t F)) (λ t F. tt)
