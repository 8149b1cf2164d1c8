-- `directed_bit` gives a label its bit if it has the direction.
use mathlib.Core.Path.{◌≡◌, sym, ap, ◌∙◌}
use mathlib.Core.Bool.{Bool, cond}
use Prim.Native.Nat.{suc, ◌^◌}
use native.Mathlib.Omega.{arith}
use Rattle.lts.specs.Directions.{label_direction, same_direction}
use Rattle.actl.specs.inner.Readers.{names_in}
use Rattle.label_names.specs.inner.Names.{direction_in}
use Rattle.actl.proofs.ReadingLabels.{shifted_two}
use Rattle.formula_sets.proofs.directed_bit.Goals as goal

pub overflow_shl-result : goal.overflow_shl-result
overflow_shl-result c =
    omega (arith, c.requires.1, c.requires.0.in_range.few_labels)

pub returns-then-same_direction : goal.returns-then-same_direction
returns-then-same_direction c =
    let tested : c.same_direction.result ≡ same_direction (label_direction (names_in c.args.table.now) (suc c.args.k)) (direction_in c.args.wanted) =
    c.same_direction.ensures ∙ ap (λ d. same_direction d (direction_in c.args.wanted)) c.last_direction.ensures in
    let k = c.args.k in
    shifted_two k (omega (arith, c.requires.1, c.requires.0.in_range.few_labels)) ∙ ap (λ (t : Bool). cond t (2 ^ suc k) 0) (sym c.if-same_direction.true ∙ tested)

pub returns-else-same_direction : goal.returns-else-same_direction
returns-else-same_direction c =
    let tested : c.same_direction.result ≡ same_direction (label_direction (names_in c.args.table.now) (suc c.args.k)) (direction_in c.args.wanted) =
    c.same_direction.ensures ∙ ap (λ d. same_direction d (direction_in c.args.wanted)) c.last_direction.ensures in
    let k = c.args.k in
    ap (λ (t : Bool). cond t (2 ^ suc k) 0) (sym c.if-same_direction.false ∙ tested)
