-- `mask_place` meets its contract: one label more has its mask each turn.
use mathlib.Core.Path.{◌≡◌, subst}
use mathlib.Core.Logic.{inl}
use Prim.Native.Nat.{◌-◌, ◌≤◌, ◌<◌}
use native.Mathlib.Omega.{arith}
use Rattle.actl.specs.Sizes.{most_nodes}
use Rattle.automaton.specs.inner.Sizes.{place_count}
use Rattle.actl.specs.Formulas.{Formula}
use Rattle.target_masks.specs.inner.Masks.{Spells, MasksOn}
use Rattle.target_masks.proofs.Laws.Places.{place-few, place-shaped, masks_turn_at}
use Rattle.target_masks.proofs.mask_place.Goals as goal

pub node_count-end-requires : goal.node_count-end-requires
node_count-end-requires c =
    c.requires.formula_length_in_bounds.0

pub node_at-node-requires : goal.node_at-node-requires
node_at-node-requires c =
    let few : c.args.k < most_nodes = place-few c.requires.spells.1 c.args.k c.requires.formula_length_in_bounds.1 in
    record { formula_length_in_bounds = c.requires.formula_length_in_bounds.0; k_lt_most_nodes = few; k_value = place-shaped c.requires.spells.1 c.args.k c.requires.formula_length_in_bounds.1 }

pub overflow_add-k : goal.overflow_add-k
overflow_add-k c =
    let few : c.args.k < most_nodes = place-few c.requires.spells.1 c.args.k c.requires.formula_length_in_bounds.1 in
    omega (arith, few)

pub is_true-last-requires : goal.is_true-last-requires
is_true-last-requires c =
    c.requires.formula_length_in_bounds.0

pub other_arm-right-requires : goal.other_arm-right-requires
other_arm-right-requires c =
    let few : c.args.k < most_nodes = place-few c.requires.spells.1 c.args.k c.requires.formula_length_in_bounds.1 in
    few

pub loop-l-init : goal.loop-l-init
loop-l-init c =
    (omega arith, c.requires.masks_on)

pub column-at-requires : goal.column-at-requires
column-at-requires c =
    inl (omega (arith, c.loop-l-test.true))

pub overflow_add-arm : goal.overflow_add-arm
overflow_add-arm c =
    let few : c.args.k < most_nodes = place-few c.requires.spells.1 c.args.k c.requires.formula_length_in_bounds.1 in
    let few-here : (c.args.k < most_nodes) × (c.column-at.result < place_count) = (few, c.column-at.ensures.1) in
    omega (arith, few-here)

pub overflow_mul-arm : goal.overflow_mul-arm
overflow_mul-arm c =
    let few : c.args.k < most_nodes = place-few c.requires.spells.1 c.args.k c.requires.formula_length_in_bounds.1 in
    let few-here : (c.args.k < most_nodes) × (c.column-at.result < place_count) = (few, c.column-at.ensures.1) in
    omega (arith, few-here)

pub overflow_add-arm-in-loop-l : goal.overflow_add-arm-in-loop-l
overflow_add-arm-in-loop-l c =
    let few : c.args.k < most_nodes = place-few c.requires.spells.1 c.args.k c.requires.formula_length_in_bounds.1 in
    let few-here : (c.args.k < most_nodes) × (c.column-at.result < place_count) = (few, c.column-at.ensures.1) in
    omega (arith, few-here)

pub offset_bounds-masks-k : goal.offset_bounds-masks-k
offset_bounds-masks-k c =
    let few : c.args.k < most_nodes = place-few c.requires.spells.1 c.args.k c.requires.formula_length_in_bounds.1 in
    let few-here : (c.args.k < most_nodes) × (c.column-at.result < place_count) = (few, c.column-at.ensures.1) in
    omega (arith, few-here)

pub bounds-masks-k : goal.bounds-masks-k
bounds-masks-k c =
    let few : c.args.k < most_nodes = place-few c.requires.spells.1 c.args.k c.requires.formula_length_in_bounds.1 in
    let few-here : (c.args.k < most_nodes) × (c.column-at.result < place_count) = (few, c.column-at.ensures.1) in
    omega (arith, few-here)

pub overflow_mul-other : goal.overflow_mul-other
overflow_mul-other c =
    let few-other : (c.other_arm-right.result ≤ 40) × (c.column-at.result < place_count) = (c.other_arm-right.ensures.upper_bound, c.column-at.ensures.1) in
    omega (arith, few-other)

pub overflow_add-other : goal.overflow_add-other
overflow_add-other c =
    let few-other : (c.other_arm-right.result ≤ 40) × (c.column-at.result < place_count) = (c.other_arm-right.ensures.upper_bound, c.column-at.ensures.1) in
    omega (arith, few-other)

pub offset_bounds-masks-right : goal.offset_bounds-masks-right
offset_bounds-masks-right c =
    let few-other : (c.other_arm-right.result ≤ 40) × (c.column-at.result < place_count) = (c.other_arm-right.ensures.upper_bound, c.column-at.ensures.1) in
    omega (arith, few-other)

pub bounds-masks-right : goal.bounds-masks-right
bounds-masks-right c =
    let few-other : (c.other_arm-right.result ≤ 40) × (c.column-at.result < place_count) = (c.other_arm-right.ensures.upper_bound, c.column-at.ensures.1) in
    omega (arith, few-other)

pub node_mask-requires : goal.node_mask-requires
node_mask-requires c =
    let few : c.args.k < most_nodes = place-few c.requires.spells.1 c.args.k c.requires.formula_length_in_bounds.1 in
    let spelled = c.requires.spells.1 in
    let label = c.loop-l-test.true in
    (few, (omega (arith, c.node_count-end.ensures, spelled.count, spelled.few), inl (omega (arith, label))))

pub overflow_mul-masks : goal.overflow_mul-masks
overflow_mul-masks c =
    let few : c.args.k < most_nodes = place-few c.requires.spells.1 c.args.k c.requires.formula_length_in_bounds.1 in
    let few-here : (c.args.k < most_nodes) × (c.column-at.result < place_count) = (few, c.column-at.ensures.1) in
    omega (arith, few-here)

pub overflow_add-masks : goal.overflow_add-masks
overflow_add-masks c =
    let few : c.args.k < most_nodes = place-few c.requires.spells.1 c.args.k c.requires.formula_length_in_bounds.1 in
    let few-here : (c.args.k < most_nodes) × (c.column-at.result < place_count) = (few, c.column-at.ensures.1) in
    omega (arith, few-here)

pub offset_bounds-masks-k-in-loop-l : goal.offset_bounds-masks-k-in-loop-l
offset_bounds-masks-k-in-loop-l c =
    let few : c.args.k < most_nodes = place-few c.requires.spells.1 c.args.k c.requires.formula_length_in_bounds.1 in
    let few-here : (c.args.k < most_nodes) × (c.column-at.result < place_count) = (few, c.column-at.ensures.1) in
    omega (arith, few-here)

pub bounds-masks-k-in-loop-l : goal.bounds-masks-k-in-loop-l
bounds-masks-k-in-loop-l c =
    let few : c.args.k < most_nodes = place-few c.requires.spells.1 c.args.k c.requires.formula_length_in_bounds.1 in
    let few-here : (c.args.k < most_nodes) × (c.column-at.result < place_count) = (few, c.column-at.ensures.1) in
    omega (arith, few-here)

pub loop-l-preserved : goal.loop-l-preserved
loop-l-preserved c =
    let found = c.column-at in
    let taken = c.loop-l-test.true in
    let loop = c.loop-l in (
      omega (arith, taken),
      λ F p. masks_turn_at p c.args.k c.requires.formula_length_in_bounds.1 c.other_arm-right.result c.other_arm-right.ensures.value
          loop.masks loop.l (loop.invariant.1 F p) taken c.node_at-node.result c.node_at-node.ensures
          c.node_count-end.result c.node_count-end.ensures c.is_true-last.result c.is_true-last.ensures
          found.result found.ensures.0 _ c.node_mask.ensures,
    )

pub returns : goal.returns
returns c =
    let loop = c.loop-l in
    let last : loop.l ≡ place_count = omega (arith, c.loop-l-test.false, loop.invariant.0) in
    λ F p. subst (λ n. MasksOn F c.args.k n loop.masks) last (loop.invariant.1 F p)
