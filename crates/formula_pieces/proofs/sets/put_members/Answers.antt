-- `put_members` joins the names of the set's labels, label by label.
use mathlib.Core.Path.{◌∙◌}
use mathlib.Core.List.{List, []}
use Prim.Native.Nat.{ℕ, ◌+◌, ◌≤◌, ◌<◌}
use native.Mathlib.Omega.{arith}
use Rattle.lts.specs.Steps.{labels}
use Rattle.lts.specs.inner.Prepared.{table_in}
use Rattle.lts.proofs.Laws.Contents.{name_in_lem}
use Rattle.formula_pieces.proofs.Laws.Adds.{adds_none}
use Rattle.formula_pieces.proofs.Laws.Sets.{joining_more, joining_all, joining_short}
use Rattle.formula_pieces.proofs.sets.put_members.Goals as goal

pub loop-k-init : goal.loop-k-init
loop-k-init c = adds_none _ _

pub put_label-end-requires : goal.put_label-end-requires
put_label-end-requires c =
    let table : List ℕ = c.args.table.now in
    let k : ℕ = c.loop-k.k in
    let few : k < labels (table_in table) = omega (arith, c.loop-k-test.true, c.label_count-count.ensures.count) in
    let o = c.requires in
    let room = joining_short (table_in table).names o.holds.in_range.named _ _ _ k c.loop-k.invariant in
    let below = o.holds.in_range.few_labels in
    (record { holds = o.holds; room = record { long = c.loop-k.invariant.long ∙ o.room.long; below = omega (arith, room, o.room.below, below, few) } }, few)

pub loop-k-preserved : goal.loop-k-preserved
loop-k-preserved c =
    let table : List ℕ = c.args.table.now in
    let k : ℕ = c.loop-k.k in
    let few : k < labels (table_in table) = omega (arith, c.loop-k-test.true, c.label_count-count.ensures.count) in
    joining_more (table_in table).names c.requires.holds.in_range.named _ _ _ k few (name_in_lem table k [] few) c.loop-k.invariant c.put_label-end.ensures

pub shape_of-out : goal.shape_of-out
shape_of-out c = c.loop-k.invariant.long

pub returns : goal.returns
returns c =
    joining_all _ c.requires.holds.in_range.named _ _ _ c.loop-k.k (omega (arith, c.label_count-count.ensures.count, c.loop-k-test.false)) c.loop-k.invariant
