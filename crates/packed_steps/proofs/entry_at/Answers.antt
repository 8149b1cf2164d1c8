-- `packing::entry_at` meets its contract: two bytes, the low one first.
use borrow.Author.Rules.{rules}
use mathlib.Core.Path.{refl}
use Rattle.packed_steps.proofs.Laws.Packing.{entry_is}
use Rattle.packed_steps.proofs.entry_at.Goals as goal

pub returns : goal.returns
returns c =
    let x = c.part in
    let y = c.part-2 in
    let a = c.args in
    entry_is a.work.now a.p x.result y.result _ x.ensures.value y.ensures.value refl
