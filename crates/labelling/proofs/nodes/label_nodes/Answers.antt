-- `label_nodes` meets its contract: the rows of the nodes from k on are labelled.
use mathlib.Core.Path.{◌≡◌, refl, sym, subst}
use Prim.Native.Nat.{◌<◌, ◌+◌, ◌-◌}
use native.Mathlib.Omega.{arith}
use lib.ListN.{get_or}
use Rattle.labelling.specs.inner.Nodes.{RowsFrom}
use Rattle.actl.proofs.Laws.Held.{formula_long, formula-few}
use Rattle.labelling.proofs.Laws.Prepared.{rows_none, rows_all}
use Rattle.labelling.proofs.Laws.Nodes.{rows_on}
use Rattle.labelling.proofs.nodes.label_nodes.Goals as goal

pub entering-requires : goal.entering-requires
entering-requires c =
    record { holds_table = c.requires.holds_table; links_value = refl }

pub node_count-k-requires : goal.node_count-k-requires
node_count-k-requires c =
    formula_long _ _ c.requires.holds_formula

pub loop-k-init : goal.loop-k-init
loop-k-init c =
    let a = c.args in
    let none = rows_none a.table.now a.formula.now a.flags.now c.requires.flags_len in
    subst (λ k. RowsFrom a.table.now a.formula.now k a.flags.now) (sym c.node_count-k.ensures) none

pub row_from_arms-requires : goal.row_from_arms-requires
row_from_arms-requires c =
    let same : c.loop-k.k ≡ c.loop-k.k - 1 + 1 = omega arith in
    record {
      table_held = c.requires.holds_table;
      steps_of = c.requires.steps_of;
      linked = c.entering.ensures;
      formula_held = c.requires.holds_formula;
      arms_end = c.requires.arms_end;
      inside = omega (arith, c.loop-k-test.true, c.node_count-k.ensures, c.loop-k.auto.k);
      rows_behind = subst (λ k. RowsFrom c.args.table.now c.args.formula.now k c.loop-k.flags) same c.loop-k.invariant;
    }

pub put_row-requires : goal.put_row-requires
put_row-requires c =
    record {
      k_lt_most_nodes = omega (arith, c.node_count-k.ensures, c.loop-k.auto.k, formula-few _ _ c.requires.holds_formula);
      flags_len = c.loop-k.invariant.places;
    }

pub loop-k-preserved : goal.loop-k-preserved
loop-k-preserved c =
    let same : c.loop-k.k ≡ c.loop-k.k - 1 + 1 = omega arith in
    let inside : c.loop-k.k - 1 < get_or c.args.formula.now 0 0 = omega (arith, c.loop-k-test.true, c.node_count-k.ensures, c.loop-k.auto.k) in
    let behind = subst (λ k. RowsFrom c.args.table.now c.args.formula.now k c.loop-k.flags) same c.loop-k.invariant in
    rows_on _ _ c.requires.holds_table _ inside behind c.row_from_arms.ensures c.put_row.ensures

pub returns : goal.returns
returns c =
    rows_all _ _ c.loop-k.k c.loop-k-test.false c.loop-k.invariant
