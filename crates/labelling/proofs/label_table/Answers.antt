-- `label_table` meets its contract: the steps and the shape are those that the labelling asks for.
use Prim.Native.Nat.{ℕ}
use lib.ListN.{length-replicate}
use Rattle.lts.specs.inner.Sizes.{most_steps, firsts_length}
use Rattle.actl.proofs.Laws.Held.{formula_long}
use Rattle.labelling.proofs.label_table.Goals as goal

pub fill_steps-requires : goal.fill_steps-requires
fill_steps-requires c =
    record { holds_table = c.requires.holds_table; steps_len = (length-replicate {A = ℕ} most_steps 0, length-replicate {A = ℕ} firsts_length 0) }

pub shape_of-shape-requires : goal.shape_of-shape-requires
shape_of-shape-requires c =
    formula_long _ _ c.requires.holds_formula

pub label_nodes-requires : goal.label_nodes-requires
label_nodes-requires c =
    record {
      holds_table = c.requires.holds_table;
      steps_of = c.fill_steps.ensures;
      holds_formula = c.requires.holds_formula;
      arms_end =
          record { arms_end = λ F e k h. (c.shape_of-shape.ensures _ F e).ends k h };
      flags_len = c.requires.flags_len;
    }
