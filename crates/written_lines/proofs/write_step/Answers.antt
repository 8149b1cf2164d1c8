-- `write_step` leaves a transition's line `pasted`: three columns and the LF.
use mathlib.Core.Path.{◌≡◌, ap, ◌∙◌}
use Prim.Native.Nat.{◌+◌}
use native.Mathlib.Omega.{arith}
use lib.ListN.{length, length-set}
use Rattle.columns.specs.inner.Write.{pasted}
use Rattle.lts.specs.Text.{ended, transition_line}
use Rattle.tables.specs.inner.Access.{step_in}
use Rattle.written_lines.proofs.Laws.Kept.{from-kept, label_kept, to-kept}
use Rattle.written_lines.proofs.Laws.Lines.{step-stands}
use Rattle.written_lines.proofs.write_step.Goals as goal

pub transition_at-step-requires : goal.transition_at-step-requires
transition_at-step-requires c =
    let held = c.requires.holds_table in
    (held.0.long, omega (arith, held.1, held.0.in_range.few_transitions))

pub copy_column-requires : goal.copy_column-requires
copy_column-requires c = (
  from-kept c.requires.holds_table.0 c.requires.holds_table.1 c.requires.numbers_kept.0 (step_in c.transition_at-step.result)
      c.transition_at-step.ensures.step,
  omega (arith, c.requires.numbers_kept.1),
)

pub copy_column-requires-2 : goal.copy_column-requires-2
copy_column-requires-2 c =
    let first-kept : length c.copy_column.new.out ≡ length c.args.text.now = c.copy_column.auto.out in (
      label_kept c.requires.holds_table.0 c.requires.holds_table.1 c.requires.numbers_kept.0 (step_in c.transition_at-step.result) c.transition_at-step.ensures.step,
      omega (arith, first-kept, c.requires.numbers_kept.1),
    )

pub copy_column-requires-3 : goal.copy_column-requires-3
copy_column-requires-3 c =
    let first-kept : length c.copy_column.new.out ≡ length c.args.text.now = c.copy_column.auto.out in
    let second-kept : length c.copy_column-2.new.out ≡ length c.args.text.now = c.copy_column-2.auto.out ∙ first-kept in (
      to-kept c.requires.holds_table.0 c.requires.holds_table.1 c.requires.numbers_kept.0 (step_in c.transition_at-step.result) c.transition_at-step.ensures.step,
      omega (arith, second-kept, c.requires.numbers_kept.1),
    )

pub bounds-text-at : goal.bounds-text-at
bounds-text-at c =
    let first-kept : length c.copy_column.new.out ≡ length c.args.text.now = c.copy_column.auto.out in
    let second-kept : length c.copy_column-2.new.out ≡ length c.args.text.now = c.copy_column-2.auto.out ∙ first-kept in
    let third-kept : length c.copy_column-3.new.out ≡ length c.args.text.now = c.copy_column-3.auto.out ∙ second-kept in
    omega (arith, third-kept, c.requires.numbers_kept.1)

pub shape_of-text : goal.shape_of-text
shape_of-text c =
    let first-kept : length c.copy_column.new.out ≡ length c.args.text.now = c.copy_column.auto.out in
    let second-kept : length c.copy_column-2.new.out ≡ length c.args.text.now = c.copy_column-2.auto.out ∙ first-kept in
    let third-kept : length c.copy_column-3.new.out ≡ length c.args.text.now = c.copy_column-3.auto.out ∙ second-kept in
    length-set c.copy_column-3.new.out (c.args.at + 18) _ ∙ third-kept

pub returns : goal.returns
returns c =
    let a = c.args in
    let st = c.transition_at-step.ensures in
    step-stands a.text.now a.at c.requires.numbers_kept.1 (step_in c.transition_at-step.result)
    (omega (arith, st.from_byte)) (omega (arith, st.label_byte)) (omega (arith, st.to_byte))
    c.copy_column.new.out c.copy_column-2.new.out c.copy_column-3.new.out
    c.copy_column.ensures c.copy_column-2.ensures c.copy_column-3.ensures
    ∙ ap (λ s. pasted a.text.now a.at (ended (transition_line s))) st.step
