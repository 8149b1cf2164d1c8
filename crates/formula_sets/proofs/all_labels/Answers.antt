-- `all_labels` has the bits 1 to n.
use native.Mathlib.Omega.{arith}
use Rattle.actl.proofs.ReadingLabels.{shifted_all}
use mathlib.Core.Path.{ap}
use Rattle.lts.specs.Directions.{label_direction}
use Rattle.actl.specs.Actions.{Action, mask_of}
use Rattle.actl.specs.inner.Readers.{names_in}
use Rattle.formula_sets.proofs.all_labels.Goals as goal

pub overflow_sub-result : goal.overflow_sub-result
overflow_sub-result c =
    let d = label_direction (names_in c.args.table.now) in
    omega (arith, shifted_all d c.label_count.result (omega (arith, c.label_count.ensures.count, c.requires.in_range.few_labels)))

pub returns : goal.returns
returns c =
    let e = c.label_count.ensures.count in
    let d = label_direction (names_in c.args.table.now) in
    let h = shifted_all d c.label_count.result (omega (arith, c.requires.in_range.few_labels)) in
    omega (arith, ap (λ n. mask_of d n Action.any) e)
