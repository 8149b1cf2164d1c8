-- `node_at` reads a node's slot: at each kind the slot has that kind, the masks that were read, and zero for those that it does not have.
use native.Mathlib.Omega.{arith}
use mathlib.Core.Path.{refl, sym}
use Rattle.actl.specs.Prepared.{Slot}
use Rattle.actl.specs.inner.Prepared.{slot_at}
use Rattle.actl.proofs.Laws.Slots.{shape_of, slot_by_parts, slot_without_masks, slot_with_first}
use Rattle.formulas.proofs.node.node_at.Goals as goal

pub returns-in-1 : goal.returns-in-1
returns-in-1 c = slot_without_masks (slot_at c.args.formula.now c.args.k) c.requires.k_value c.in-1.is refl refl

pub returns-in-2 : goal.returns-in-2
returns-in-2 c = slot_without_masks (slot_at c.args.formula.now c.args.k) c.requires.k_value c.in-2.is refl refl

pub returns-in-3 : goal.returns-in-3
returns-in-3 c = slot_without_masks (slot_at c.args.formula.now c.args.k) c.requires.k_value c.in-3.is refl refl

pub returns-in-4 : goal.returns-in-4
returns-in-4 c = slot_without_masks (slot_at c.args.formula.now c.args.k) c.requires.k_value c.in-4.is refl refl

pub returns-in-6 : goal.returns-in-6
returns-in-6 c = slot_without_masks (slot_at c.args.formula.now c.args.k) c.requires.k_value c.in-6.is refl refl

pub returns-in-5 : goal.returns-in-5
returns-in-5 c = slot_with_first (slot_at c.args.formula.now c.args.k) c.requires.k_value c.in-5.is refl (sym c.first_mask.ensures)

pub returns-in-7 : goal.returns-in-7
returns-in-7 c = slot_with_first (slot_at c.args.formula.now c.args.k) c.requires.k_value c.in-7.is refl (sym c.first_mask-in-7.ensures)

pub returns-in-8 : goal.returns-in-8
returns-in-8 c = slot_with_first (slot_at c.args.formula.now c.args.k) c.requires.k_value c.in-8.is refl (sym c.first_mask-in-8.ensures)

pub returns-in_default : goal.returns-in_default
returns-in_default c =
    let read : Slot = slot_at c.args.formula.now c.args.k in
    let h = shape_of read c.requires.k_value in
    slot_by_parts read (omega (arith, h.low, h.high)) (sym c.first_mask-in_default.ensures) (sym c.second_mask.ensures)
