-- `highest_classless` meets its contract: the walk leaves the classes of the formula's nodes.
use mathlib.Core.Path.{◌≡◌, sym, ap, ◌∙◌}
use mathlib.Core.Option.{none}
use native.Mathlib.Omega.{arith}
use lib.ListN.{length, take}
use lib.Seq.{length-take-le}
use Rattle.actl.specs.Formulas.{size, nodes, highest_without_class}
use Rattle.actl.specs.inner.Walk.{classes_of, last_none}
use Rattle.actl.proofs.Laws.Classed.{highest_none}
use Rattle.actl.proofs.Laws.Walks.{length_kinds}
use Rattle.formula_classes.proofs.Laws.LastNone.{last-none}
use Rattle.formula_classes.proofs.Laws.Walked.{walk_noted, noted-classes, length_kinds_in}
use Rattle.formula_classes.proofs.highest_classless.Goals as goal

pub slice_bounds-last_none-end : goal.slice_bounds-last_none-end
slice_bounds-last_none-end c =
    let w = c.walk_nodes in
    sym (length-take-le c.args.count w.new.classes (omega (arith, w.auto.classes, c.requires)))

pub returns : goal.returns
unfolding highest_without_class
returns c =
    λ F e.
    let w = c.walk_nodes in
    let a = c.args in
    let few = c.requires.1 in
    let count : a.count ≡ size F = sym (length_kinds_in a.formula.now a.count) ∙ (sym (ap length e) ∙ length_kinds F) in
    let noted = walk_noted w.result F e w.ensures in
    let classes : take a.count w.new.classes ≡ classes_of F =
    ap (λ n. take n w.new.classes) count ∙ noted-classes F noted (omega arith) in
    last-none (take a.count w.new.classes) c.last_none.result c.last_none.ensures ∙ (ap (λ l. last_none 0 l none) classes ∙ highest_none 0 (nodes F) none)
