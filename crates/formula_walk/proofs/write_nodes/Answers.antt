-- `write_nodes` writes node by node, and all of them give the formula's text.
use mathlib.Core.Path.{◌≡◌, sym, ap, ◌∙◌}
use mathlib.Core.Bool.{true}
use mathlib.Core.List.{List}
use Prim.Native.Nat.{ℕ, ◌≤◌, ◌<◌}
use native.Mathlib.Omega.{arith}
use lib.ListN.{get_or}
use Rattle.lts.specs.Steps.{labels}
use Rattle.lts.specs.inner.Prepared.{table_in}
use Rattle.lts.proofs.Laws.NameRuns.{name-short}
use Rattle.actl.specs.Sizes.{most_nodes}
use Rattle.actl.specs.Formulas.{tru, size, nodes}
use Rattle.actl.specs.Prepared.{slot_within}
use Rattle.actl.specs.inner.Prepared.{slot_at}
use Rattle.actl.proofs.Laws.Held.{formula_long, formula-few, formula-shaped}
use Rattle.actl.proofs.Laws.Prepared.{prepared-of, prepared-count, prepared-slot}
use Rattle.actl.proofs.Nodes.{length-nodes}
use Rattle.lts.proofs.Lists.{get_d_mem}
use Rattle.formulas.specs.inner.Access.{slot_of_node}
use Rattle.formula_walk.proofs.Laws.Writing.{Short, writing_start, writing_more, writing_end}
use Rattle.formula_walk.proofs.write_nodes.Goals as goal

pub node_count-count-requires : goal.node_count-count-requires
node_count-count-requires c =
    formula_long _ _ c.requires.holds_formula

pub loop-k-init : goal.loop-k-init
loop-k-init c =
    writing_start _ _ _ _ _ (omega arith)

pub node_at-node-requires : goal.node_at-node-requires
node_at-node-requires c =
    let table : List ℕ = c.args.table.now in
    let formula : List ℕ = c.args.formula.now in
    let n : ℕ = labels (table_in table) in
    let most : c.node_count-count.result ≤ most_nodes = omega (arith, c.node_count-count.ensures, formula-few (n) (formula) c.requires.holds_formula) in
    let here : c.loop-k.k < get_or (formula) 0 0 = omega (arith, c.loop-k-test.true, c.node_count-count.ensures) in
    let h = c.requires.holds_formula in record
    { formula_length_in_bounds = formula_long _ _ h; k_lt_most_nodes = omega (arith, most, c.loop-k-test.true); k_value = formula-shaped _ _ h c.loop-k.k (here) }

pub slice_bounds-write_node-end : goal.slice_bounds-write_node-end
slice_bounds-write_node-end c =
    sym c.loop-k.invariant.long

pub write_node-next-requires : goal.write_node-next-requires
write_node-next-requires c =
    let table : List ℕ = c.args.table.now in
    let formula : List ℕ = c.args.formula.now in
    let n : ℕ = labels (table_in table) in
    let slot-within : (k : ℕ) → k < get_or formula 0 0 → slot_within n (slot_at formula k) ≡ true = λ k l. let h = c.requires.holds_formula in
    let here : k < size h.formula = omega (arith, l, prepared-count n formula h.prepared) in
    ap (slot_within n) (prepared-slot n formula h.prepared k here)
    ∙ (prepared-of n formula h.prepared).within _ (get_d_mem (nodes h.formula) k tru (omega (arith, here, length-nodes h.formula))) in
    let most : c.node_count-count.result ≤ most_nodes = omega (arith, c.node_count-count.ensures, formula-few (n) (formula) c.requires.holds_formula) in
    let here : c.loop-k.k < get_or (formula) 0 0 = omega (arith, c.loop-k-test.true, c.node_count-count.ensures) in
    let l = c.loop-k in
    let before_last : l.k < most_nodes = omega (arith, most, c.loop-k-test.true) in record {
      over = (
        record {
          holds = c.requires.holds_table.0;
          room = record { long = l.invariant.adds.long ∙ c.requires.holds_table.1; below = omega (arith, l.invariant.short, before_last) };
        },
        record { long = l.invariant.long; within = omega (arith, l.invariant.few, before_last) },
      );
      node_value = ap (slot_within (n)) c.node_at-node.ensures ∙ slot-within l.k (here);
    }

pub loop-k-preserved : goal.loop-k-preserved
loop-k-preserved c =
    let table : List ℕ = c.args.table.now in
    let formula : List ℕ = c.args.formula.now in
    let n : ℕ = labels (table_in table) in
    let short : Short (table_in table).names = λ x m. (name-short x (c.requires.holds_table.0.in_range.named x m)).1 in
    let most : c.node_count-count.result ≤ most_nodes = omega (arith, c.node_count-count.ensures, formula-few (n) (formula) c.requires.holds_formula) in
    writing_more _ _ _ _ (short) c.requires.holds_table.0.in_range.few_labels (most) (slot_of_node c.node_at-node.result) c.write_node-next.result
    c.loop-k.invariant c.loop-k-test.true c.node_at-node.ensures c.write_node-next.ensures

pub shape_of-out : goal.shape_of-out
shape_of-out c =
    c.loop-k.invariant.adds.long

pub returns : goal.returns
returns c =
    record {
      adds = λ F f. writing_end _ _ _ _ c.requires.holds_table.0.in_range.few_labels c.loop-k.invariant (omega (arith, c.loop-k-test.false)) c.node_count-count.ensures F f;
    }
