-- `final_places` meets its contract: the flags from place k on are right.
use mathlib.Core.Path.{◌≡◌, sym, ◌∙◌, subst}
use mathlib.Core.Bool.{true, false}
use Prim.Native.Nat.{◌-◌, ◌≤◌, ◌<◌}
use native.Mathlib.Omega.{arith}
use lib.ListN.{get_or, length-replicate, get_or-replicate, replicate}
use Rattle.actl.specs.Sizes.{most_nodes}
use Rattle.automaton.specs.inner.Sizes.{place_count}
use Rattle.actl.specs.Formulas.{Formula}
use Rattle.target_masks.specs.inner.Masks.{Spells, FinalsOf}
use Rattle.target_masks.proofs.Laws.Places.{place-few, place-shaped, finals_from, finals_turn, finals_end}
use borrow.Author.Rules.{rules}
use Rattle.target_masks.proofs.final_places.Goals as goal

pub node_count-k-requires : goal.node_count-k-requires
node_count-k-requires c =
    c.requires.formula_length_in_bounds

pub loop-k-init : goal.loop-k-init
loop-k-init c =
    let n = c.node_count-k.ensures in
    λ F p. subst (λ k. FinalsOf F k (replicate place_count true)) (sym (n ∙ p.count))
    (finals_end F _ (length-replicate place_count true) (λ i h. get_or-replicate place_count i true false h) p.few)

pub overflow_add-arm : goal.overflow_add-arm
overflow_add-arm c =
    let few : c.loop-k.k - 1 < most_nodes = place-few c.requires.spells.1 (c.loop-k.k - 1) (omega arith) in
    omega (arith, few)

pub bounds-finals-k : goal.bounds-finals-k
bounds-finals-k c =
    let few : c.loop-k.k - 1 < most_nodes = place-few c.requires.spells.1 (c.loop-k.k - 1) (omega arith) in
    omega (arith, few)

pub other_arm-requires : goal.other_arm-requires
other_arm-requires c =
    let few : c.loop-k.k - 1 < most_nodes = place-few c.requires.spells.1 (c.loop-k.k - 1) (omega arith) in
    few

pub bounds-finals-other_arm : goal.bounds-finals-other_arm
bounds-finals-other_arm c =
    omega (arith, c.other_arm.ensures.upper_bound)

pub node_at-requires : goal.node_at-requires
node_at-requires c =
    let few : c.loop-k.k - 1 < most_nodes = place-few c.requires.spells.1 (c.loop-k.k - 1) (omega arith) in
    record { formula_length_in_bounds = c.requires.formula_length_in_bounds; k_lt_most_nodes = few; k_value = place-shaped c.requires.spells.1 (c.loop-k.k - 1) (omega arith) }

pub bounds-finals-k-in-loop-k : goal.bounds-finals-k-in-loop-k
bounds-finals-k-in-loop-k c =
    let few : c.loop-k.k - 1 < most_nodes = place-few c.requires.spells.1 (c.loop-k.k - 1) (omega arith) in
    omega (arith, few)

pub loop-k-preserved : goal.loop-k-preserved
loop-k-preserved c =
    let l = c.loop-k in
    let other = c.other_arm in
    let node = c.node_at in
    λ F p. finals_turn p (l.k - 1) (omega arith) other.result other.ensures.value l.finals
    (finals_from c.loop-k-test.true (l.invariant F p)) node.result node.ensures _ c.node_final.ensures

pub returns : goal.returns
returns c =
    let l = c.loop-k in
    let e : l.k ≡ 0 = omega arith in
    λ F p. subst (λ k. FinalsOf F k l.finals) e (l.invariant F p)
