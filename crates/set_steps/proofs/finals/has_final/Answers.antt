-- `has_final` meets its contract: what the states from s on have is left.
use mathlib.Core.Path.{◌≡◌, refl, sym, ◌∙◌}
use mathlib.Core.Bool.{Bool, true, false}
use mathlib.Core.List.{List}
use Prim.Native.Nat.{ℕ, ◌-◌, ◌≤◌}
use native.Mathlib.Omega.{arith}
use lib.ListN.{get_or, drop}
use Rattle.lts.specs.Lists.{any_of}
use Rattle.frontier.specs.inner.Reached.{some_final}
use Rattle.row_sets.specs.inner.Sets.{has_final}
use Rattle.set_steps.specs.inner.Finals.{meets, FinalMask}
use Rattle.set_steps.proofs.Laws.Masks.{some-zero, some_more, meets-none}
use Rattle.set_steps.proofs.Laws.Tests.{any_same, any_here, any-later, any_empty}
use Rattle.set_steps.proofs.finals.has_final.Goals as goal

-- The final places are those of the mask.
as-final : (finals : List Bool) (mask : ℕ) (set : List ℕ) → FinalMask finals mask → any_of (meets mask) set ≡ has_final finals set
unfolding has_final
as-final finals mask set f = any_same (meets mask) (some_final finals) set (λ p. sym (f.some p))

pub loop-s-init : goal.loop-s-init
loop-s-init c =
    (omega arith, refl)

pub offset_bounds-set-s : goal.offset_bounds-set-s
offset_bounds-set-s c =
    omega (arith, c.loop-s-test.true, c.requires.states_le_most_states)

pub bounds-set-s : goal.bounds-set-s
bounds-set-s c =
    omega (arith, c.loop-s-test.true, c.requires.states_le_most_states)

pub returns-then-set-s-ne0 : goal.returns-then-set-s-ne0
returns-then-set-s-ne0 c =
    let loop = c.loop-s in
    let a = c.args in
    let here : meets a.mask (get_or a.set.now loop.s 0) ≡ true = some_more _ c.if-set-s-ne0.true in
    let found = any_here (meets a.mask) (meets-none a.mask) a.set.now loop.s here in
    λ finals f. sym (loop.invariant.1 ∙ found) ∙ as-final finals a.mask a.set.now f

pub loop-s-preserved : goal.loop-s-preserved
loop-s-preserved c =
    let loop = c.loop-s in
    let a = c.args in
    let here : meets a.mask (get_or a.set.now loop.s 0) ≡ false = some-zero _ c.if-set-s-ne0.false in
    let later = any-later (meets a.mask) (meets-none a.mask) a.set.now loop.s here in
    (omega (arith, c.loop-s-test.true), loop.invariant.1 ∙ later)

pub returns : goal.returns
returns c =
    let loop = c.loop-s in
    let a = c.args in
    let over = any_empty (meets a.mask) (meets-none a.mask) a.set.now loop.s (λ s h. c.requires.empty_from s (omega (arith, c.loop-s-test.false))) in
    λ finals f. sym (loop.invariant.1 ∙ over) ∙ as-final finals a.mask a.set.now f
