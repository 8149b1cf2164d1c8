-- `put_node` writes the kind and the masks of the node's slot.
use mathlib.Core.Path.{◌≡◌, refl, ap, ◌∙◌}
use Prim.Native.Nat.{ℕ, ◌+◌, ◌*◌}
use native.Mathlib.Omega.{arith}
use lib.ListN.{length, set, length-set}
use Rattle.columns.specs.inner.Write.{pasted}
use Rattle.actl.specs.Sizes.{node_slot_length}
use Rattle.actl.specs.Prepared.{slot_bytes}
use Rattle.actl.proofs.ReadingBytes.{slot-pasted}
use Rattle.formulas.proofs.node.put_node.Goals as goal

pub put_mask-requires : goal.put_mask-requires
put_mask-requires c =
    let slot-place : ℕ = 1 + c.args.k * node_slot_length in
    let kind-length : length (set c.args.formula.now slot-place c.slot_of-slot.result.kind) ≡ length c.args.formula.now = length-set c.args.formula.now slot-place c.slot_of-slot.result.kind in
    omega (arith, c.requires, kind-length)

pub put_mask-requires-2 : goal.put_mask-requires-2
put_mask-requires-2 c =
    let slot-place : ℕ = 1 + c.args.k * node_slot_length in
    let kind-length : length (set c.args.formula.now slot-place c.slot_of-slot.result.kind) ≡ length c.args.formula.now = length-set c.args.formula.now slot-place c.slot_of-slot.result.kind in
    omega (arith, c.requires, c.put_mask.auto.formula, kind-length)

pub shape_of-formula : goal.shape_of-formula
shape_of-formula c =
    let slot-place : ℕ = 1 + c.args.k * node_slot_length in
    let kind-length : length (set c.args.formula.now slot-place c.slot_of-slot.result.kind) ≡ length c.args.formula.now = length-set c.args.formula.now slot-place c.slot_of-slot.result.kind in
    c.put_mask-2.auto.formula ∙ (c.put_mask.auto.formula ∙ kind-length)

pub returns : goal.returns
returns c =
    let slot-place : ℕ = 1 + c.args.k * node_slot_length in
    let s = c.slot_of-slot.result in
    let e = c.args.formula.now in
    let at = slot-place in
    slot-pasted at (at + 1) (at + 9) s.kind s.first s.second e _ _ _ c.requires refl refl refl c.put_mask.ensures
    c.put_mask-2.ensures
    ∙ ap (λ x. pasted e at (slot_bytes x)) c.slot_of-slot.ensures
