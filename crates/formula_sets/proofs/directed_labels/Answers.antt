-- `directed_labels` has the bits of the labels of a direction: the invariant is their mask so far.
use mathlib.Core.Path.{◌≡◌, ap, ap₂, ◌∙◌}
use Prim.Native.Nat.{ℕ, suc, ◌+◌}
use native.Mathlib.Omega.{arith}
use lib.ListN.{length}
use Rattle.lts.specs.Directions.{Direction, label_direction}
use Rattle.actl.specs.Actions.{Action, mask_of}
use Rattle.actl.specs.inner.Readers.{names_in}
use Rattle.label_names.specs.inner.Names.{direction_in}
use Rattle.actl.proofs.ReadingMasks.{mask-none_yet, mask-more, mask-small}
use Rattle.formula_sets.proofs.directed_labels.Goals as goal

pub loop-k-init : goal.loop-k-init
loop-k-init c =
    let a = c.args in
    mask-none_yet (label_direction (names_in a.table.now)) (Action.directed (direction_in a.wanted))

-- The mask with the next label's bit.
mask-next : (c : goal.After-directed_bit-mask) → c.loop-k.mask + c.directed_bit-mask.result
    ≡ mask_of (label_direction (names_in c.args.table.now)) (suc c.loop-k.k) (Action.directed (direction_in c.args.wanted))
mask-next c =
    ap₂ ◌+◌ c.loop-k.invariant c.directed_bit-mask.ensures
    ∙ mask-more (label_direction (names_in c.args.table.now)) c.loop-k.k (Action.directed (direction_in c.args.wanted))

pub overflow_add-mask : goal.overflow_add-mask
overflow_add-mask c =
    let directions : ℕ → Direction = label_direction (names_in c.args.table.now) in
    let wanted : Action = Action.directed (direction_in c.args.wanted) in
    let count = c.label_count-count.ensures.count in
    let small = mask-small directions (suc c.loop-k.k) wanted (omega (arith, count, c.requires.in_range.few_labels)) in
    record { fits = omega (arith, mask-next c, small) }

pub loop-k-preserved : goal.loop-k-preserved
loop-k-preserved c =
    let next : suc c.loop-k.k ≡ c.loop-k.k + 1 = omega arith in
    mask-next c ∙ ap (λ n. mask_of (label_direction (names_in c.args.table.now)) n (Action.directed (direction_in c.args.wanted))) next

pub returns : goal.returns
returns c =
    let a = c.args in
    let all : c.loop-k.k ≡ length (names_in a.table.now) = omega (arith, c.label_count-count.ensures.count) in
    c.loop-k.invariant ∙ ap (λ n. mask_of (label_direction (names_in a.table.now)) n (Action.directed (direction_in a.wanted))) all
