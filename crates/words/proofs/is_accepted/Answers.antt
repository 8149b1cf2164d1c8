-- `is_accepted` meets its contract: what the word reaches has a final place exactly if the word is accepted.
use mathlib.Core.Path.{ap, ◌∙◌}
use Prim.Native.Nat.{ℕ}
use lib.ListN.{length-replicate}
use Rattle.lts.specs.inner.Sizes.{most_steps, firsts_length}
use Rattle.lts.specs.Steps.{labels}
use Rattle.lts.specs.inner.Steps.{steps_from}
use Rattle.lts.specs.inner.Prepared.{table_in}
use Rattle.actl.specs.Formulas.{Formula}
use Rattle.actl.specs.inner.HoldsFormula.{HoldsFormula}
use Rattle.automaton.specs.inner.Sizes.{masks_length}
use Rattle.target_masks.specs.inner.Masks.{Spells}
use Rattle.table_steps.specs.inner.StepArray.{steps_in}
use Rattle.actl.proofs.Laws.Held.{formula_long}
use Rattle.target_masks.proofs.Laws.Places.{spells, zeros-at}
use Rattle.frontier.specs.inner.Frontier.{nowhere, all_places}
use Rattle.frontier.specs.inner.Reached.{word_read, root_reached, some_final}
use Rattle.frontier.proofs.Laws.Accepting.{word_same, found-as-accepted}
use Rattle.words.proofs.is_accepted.Goals as goal

pub fill_steps-requires : goal.fill_steps-requires
fill_steps-requires c =
    record { holds_table = c.requires.holds_table; steps_len = (length-replicate {A = ℕ} most_steps 0, length-replicate {A = ℕ} firsts_length 0) }

pub shape_of-shape-requires : goal.shape_of-shape-requires
shape_of-shape-requires c =
    formula_long _ _ c.requires.holds_formula

pub fill_masks-requires : goal.fill_masks-requires
fill_masks-requires c =
    let held : HoldsFormula (labels (table_in c.args.table.now)) c.args.formula.now = c.requires.holds_formula in
    let named : (F : Formula) × Spells c.args.formula.now c.shape_of-shape.result.ends F =
    (held.formula, spells _ _ held.prepared c.shape_of-shape.result (c.shape_of-shape.ensures _ _ held.prepared)) in
    record { formula_length_in_bounds = formula_long _ _ (held); spells = named; cleared = (length-replicate {A = ℕ} masks_length 0, zeros-at masks_length) }

pub final_places-finals-requires : goal.final_places-finals-requires
final_places-finals-requires c =
    let held : HoldsFormula (labels (table_in c.args.table.now)) c.args.formula.now = c.requires.holds_formula in
    let named : (F : Formula) × Spells c.args.formula.now c.shape_of-shape.result.ends F =
    (held.formula, spells _ _ held.prepared c.shape_of-shape.result (c.shape_of-shape.ensures _ _ held.prepared)) in
    record { formula_length_in_bounds = formula_long _ _ (held); spells = named }

pub read_word-requires : goal.read_word-requires
read_word-requires c =
    record { steps_fit = c.fill_steps.ensures.fit; start_lt_most_states = c.start_state-start.ensures.fits; letters = c.requires.letters }

pub returns : goal.returns
returns c =
    let finals = c.final_places-finals in
    let masks = c.fill_masks.new.masks in
    let shape = c.shape_of-shape in
    let steps = c.fill_steps.new.steps in
    let firsts = c.fill_steps.new.firsts in
    let t = table_in c.args.table.now in
    let w = c.args.word.now in
    let from_start = ap (λ s. word_read (steps_in steps firsts) masks w (root_reached s) nowhere) c.start_state-start.ensures.count in
    let along = word_same (steps_in steps firsts) (steps_from t) c.fill_steps.ensures.leaving masks w (root_reached t.start) nowhere in
    record {
      answer = λ F e.
          let p = spells _ _ e shape.result (shape.ensures _ F e) in
          c.some_final.ensures
          ∙ (ap (some_final finals.result) (c.read_word.ensures ∙ ap all_places (from_start ∙ along))
          ∙ found-as-accepted t c.requires.holds_table.in_range F p.few masks (c.fill_masks.ensures F p).0 finals.result (finals.ensures F p) w c.requires.letters);
    }
