-- `label_node` meets its contract, by the cases of a node.
use native.Mathlib.Omega.{arith}
use Rattle.lts.specs.inner.Prepared.{table_in}
use Rattle.lts.specs.inner.Steps.{steps_from}
use Rattle.until_search.specs.inner.Flags.{at_once, Flags}
use Rattle.labelling.specs.inner.Rows.{row_at}
use Rattle.labelling.proofs.Laws.Nodes.{until_flags, flags_at_once, of_kind}
use Rattle.labelling.proofs.nodes.label_node.Goals as goal
use Rattle.labelling.proofs.nodes.label_node.Goals.{After-label_at_once}

pub state_count-requires : goal.state_count-requires
state_count-requires c =
    c.requires.holds_table.long

pub label_at_once-requires : goal.label_at_once-requires
label_at_once-requires c =
    let rows = c.requires.linked in record {
      steps_fit = c.requires.steps_of.fit;
      states_le_most_states =
          (omega (arith, c.state_count.ensures.count, c.requires.holds_table.in_range.few_states), rows.1, rows.2);
    }

once : (c : After-label_at_once) → let a = c.args in
    Flags (table_in a.table.now).states (λ s. at_once a.node (row_at a.flags.now a.arm) (row_at a.flags.now a.other) s (steps_from (table_in a.table.now) s)) c.label_at_once.result
once c =
    let a = c.args in
    flags_at_once _ c.requires.holds_table.in_range c.requires.steps_of c.state_count.ensures.count a.node (row_at a.flags.now a.arm) (row_at a.flags.now a.other) c.label_at_once.ensures

pub returns-in-True : goal.returns-in-True
returns-in-True c =
    of_kind _ _ _ c.in-True.is (λ once. once) (once (goal.at.returns-in-True c).After-label_at_once)

pub returns-in-Not : goal.returns-in-Not
returns-in-Not c =
    of_kind _ _ _ c.in-Not.is (λ once. once) (once (goal.at.returns-in-Not c).After-label_at_once)

pub returns-in-Or : goal.returns-in-Or
returns-in-Or c =
    of_kind _ _ _ c.in-Or.is (λ once. once) (once (goal.at.returns-in-Or c).After-label_at_once)

pub returns-in-Ex : goal.returns-in-Ex
returns-in-Ex c =
    of_kind _ _ _ c.in-Ex.is (λ once. once) (once (goal.at.returns-in-Ex c).After-label_at_once)

pub returns-in-Ax : goal.returns-in-Ax
returns-in-Ax c =
    of_kind _ _ _ c.in-Ax.is (λ once. once) (once (goal.at.returns-in-Ax c).After-label_at_once)

pub returns-in-Until : goal.returns-in-Until
returns-in-Until c =
    of_kind _ _ _ c.in-Until.is (λ once. until_flags _ c.requires.holds_table.in_range _ _ _ _ once c.until.ensures)
    (once (goal.at.returns-in-Until c).After-label_at_once)

pub returns-in-UntilThen : goal.returns-in-UntilThen
returns-in-UntilThen c =
    of_kind _ _ _ c.in-UntilThen.is (λ once. until_flags _ c.requires.holds_table.in_range _ _ _ _ once c.until-in-UntilThen.ensures)
    (once (goal.at.returns-in-UntilThen c).After-label_at_once)
