-- `shape_of` meets its contract: a prepared formula's kinds are those of its nodes, and the walk from node 0 notes their ends and classes.
use mathlib.Core.Path.{ap, ◌∙◌}
use native.Mathlib.Omega.{arith}
use Rattle.actl.specs.inner.Walk.{kinds_in}
use Rattle.actl.proofs.Laws.Prepared.{prepared-count, prepared-few}
use Rattle.formula_classes.proofs.Laws.Walked.{shape_noted, noted-end, noted-class}
use Rattle.formula_classes.proofs.shape_of.Goals as goal

pub returns-then-count-le-NODES : goal.returns-then-count-le-NODES
returns-then-count-le-NODES c =
    λ n F e.
    let w = c.walk_nodes in
    let b = c.args.formula.now in
    let count = c.node_count-count.ensures in
    let few = prepared-few n b e in
    let noted = shape_noted n b e w.result (ap (kinds_in b) count) w.ensures in
    record {
      counted = count ∙ prepared-count n b e;
      ends = λ k l. noted-end F noted k l few;
      classes = λ k l. noted-class F noted k l few;
    }

pub returns-else-count-le-NODES : goal.returns-else-count-le-NODES
returns-else-count-le-NODES c =
    λ n F e.
    let b = c.args.formula.now in
    absurd (omega (arith, prepared-count n b e, prepared-few n b e))
