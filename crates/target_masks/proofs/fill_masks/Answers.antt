-- `fill_masks` meets its contract: the masks from place k on are right.
use Rattle.automaton.specs.inner.Sizes.{masks_length}
use mathlib.Core.Path.{◌≡◌, sym, ◌∙◌, subst}
use Prim.Native.Nat.{ℕ, ◌-◌, ◌≤◌, ◌<◌}
use native.Mathlib.Omega.{arith}
use lib.ListN.{length, get_or}
use Rattle.actl.specs.Formulas.{Formula}
use Rattle.target_masks.specs.inner.Masks.{Spells, MasksFit, MasksOf}
use Rattle.target_masks.proofs.Laws.Places.{masks_from, masks_next, masks_end}
use Rattle.target_masks.proofs.fill_masks.Goals as goal

pub node_count-k-requires : goal.node_count-k-requires
node_count-k-requires c =
    c.requires.formula_length_in_bounds

pub loop-k-init : goal.loop-k-init
loop-k-init c =
    let n = c.node_count-k.ensures in
    let none = c.requires.cleared in (
      none.0,
      λ i. subst (λ m. m < 2199023255552) (sym (none.1 i)) (omega arith),
      λ F p. subst (λ k. MasksOf F k c.args.masks.now) (sym (n ∙ p.count)) (masks_end F _ none.1),
    )

pub mask_place-requires : goal.mask_place-requires
mask_place-requires c =
    let l = c.loop-k in record {
      formula_length_in_bounds = (c.requires.formula_length_in_bounds, omega arith);
      spells = c.requires.spells;
      masks_on =
          λ F p. masks_from c.loop-k-test.true l.invariant.0 l.invariant.1 (l.invariant.2 F p);
    }

pub loop-k-preserved : goal.loop-k-preserved
loop-k-preserved c =
    let p = c.requires.spells in
    let m = c.mask_place.ensures p.0 p.1 in
    (m.long, m.fit, λ F q. masks_next (c.mask_place.ensures F q))

pub returns : goal.returns
returns c =
    let l = c.loop-k in
    let e : l.k ≡ 0 = omega arith in
    λ F p. (subst (λ k. MasksOf F k l.masks) e (l.invariant.2 F p), l.invariant.1)
