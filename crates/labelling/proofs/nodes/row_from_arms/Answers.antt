-- `row_from_arms` meets its contract: the row of node k follows from those of its arms.
use mathlib.Core.Path.{◌≡◌, ◌∙◌}
use Prim.Native.Nat.{◌<◌, ◌+◌}
use native.Mathlib.Omega.{arith}
use lib.ListN.{get_or}
use Rattle.actl.specs.Sizes.{most_nodes}
use Rattle.lts.specs.Steps.{labels}
use Rattle.lts.specs.inner.Prepared.{table_in}
use Rattle.actl.specs.Formulas.{tru, size, nodes}
use Rattle.actl.proofs.Laws.Prepared.{prepared-few, prepared-count, prepared-slot}
use Rattle.labelling.proofs.Laws.Nodes.{node_row}
use Rattle.actl.proofs.Laws.Held.{formula_long, formula-few, formula-shaped}
use Rattle.labelling.proofs.nodes.row_from_arms.Goals as goal

pub node_at-node-requires : goal.node_at-node-requires
node_at-node-requires c =
    let few : c.args.k < most_nodes = omega (arith, c.requires.inside, formula-few _ _ c.requires.formula_held) in
    let held = c.requires.formula_held in record { formula_length_in_bounds = formula_long _ _ held; k_lt_most_nodes = few; k_value = formula-shaped _ _ held c.args.k c.requires.inside }

pub overflow_add-k : goal.overflow_add-k
overflow_add-k c =
    let few : c.args.k < most_nodes = omega (arith, c.requires.inside, formula-few _ _ c.requires.formula_held) in
    omega (arith, few)

pub right_arm-requires : goal.right_arm-requires
right_arm-requires c =
    let few : c.args.k < most_nodes = omega (arith, c.requires.inside, formula-few _ _ c.requires.formula_held) in
    few

pub label_node-requires : goal.label_node-requires
label_node-requires c =
    let ready = c.requires in record { holds_table = ready.table_held; steps_of = ready.steps_of; linked = (ready.linked, c.row_of-arm.ensures.within, c.row_of-other.ensures.within) }

pub returns : goal.returns
returns c =
    let ready = c.requires in
    let n = labels (table_in c.args.table.now) in
    let b = c.args.formula.now in
    let k = c.args.k in
    record {
      found = λ F e.
          let here : k < size F = omega (arith, ready.inside, prepared-count n b e) in
          let behind-left : k + 1 < size F → c.right_arm.result ≡ k + 1 + size (get_or (nodes F) (k + 1) tru) =
          λ l. c.right_arm.ensures (omega (arith, prepared-few n b e)) ∙ ready.arms_end.arms_end F e (k + 1) l in
          node_row (table_in c.args.table.now) ready.table_held.in_range F (prepared-few n b e) k here _ (ready.rows_behind.rows F e)
          _ _ c.row_of-arm.ensures _ behind-left c.row_of-other.ensures
          c.node_at-node.result (c.node_at-node.ensures ∙ prepared-slot n b e k here) _ c.label_node.ensures;
    }
