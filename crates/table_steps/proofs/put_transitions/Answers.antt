-- `put_transitions` meets its contract: what is left of the part is put behind what is there.
use mathlib.Core.Path.{sym, ap, ◌∙◌}
use mathlib.Core.List.{◌∷◌, map}
use Prim.Native.Nat.{◌+◌, ◌<◌}
use native.Mathlib.Omega.{arith}
use lib.ListN.{length, length-set}
use lib.Seq.{slice}
use Rattle.lts.specs.inner.Prepared.{table_in}
use Rattle.tables.specs.inner.Access.{step_in}
use Rattle.table_steps.specs.inner.StepArray.{step_code}
use Rattle.lts.proofs.Laws.Contents.{transition_in}
use Rattle.table_steps.proofs.Laws.StepArray.{put-start, put-more, put_rest, put_done, codes-next, codes_over}
use Rattle.table_steps.proofs.put_transitions.Goals as goal

pub loop-j-init : goal.loop-j-init
loop-j-init c =
    (c.requires.a_le_b.0, c.requires.steps_len.1, c.requires.steps_len.0, put-start _ _ _)

pub transition_at-step-requires : goal.transition_at-step-requires
transition_at-step-requires c =
    (c.requires.holds_table.long, omega (arith, c.requires.a_le_b.1, c.requires.holds_table.in_range.few_transitions, c.loop-j-test.true))

pub code-requires : goal.code-requires
code-requires c =
    (c.transition_at-step.ensures.label_byte, c.transition_at-step.ensures.to_byte)

pub offset_bounds-steps-p : goal.offset_bounds-steps-p
offset_bounds-steps-p c =
    omega (arith, c.loop-j.invariant.1)

pub bounds-steps-p : goal.bounds-steps-p
bounds-steps-p c =
    omega (arith, c.loop-j.invariant.1, c.loop-j-test.true)

pub overflow_add-p : goal.overflow_add-p
overflow_add-p c =
    omega (arith, c.loop-j.invariant.1)

pub loop-j-preserved : goal.loop-j-preserved
loop-j-preserved c =
    let loop = c.loop-j in
    let taken = c.loop-j-test.true in
    let read = c.transition_at-step in
    let st = step_in read.result in
    let l = (table_in c.args.table.now).transitions in
    let there : loop.j < length l = omega (arith, c.requires.a_le_b.1) in
    let stands = transition_in c.args.table.now loop.j st there ∙ sym read.ensures.step in
    let next = codes-next l loop.j c.args.b st taken c.requires.a_le_b.1 stands in
    let rest = map step_code (slice (loop.j + 1) c.args.b l) in (
      omega arith,
      omega (arith, loop.invariant.1),
      simp length-set loop.invariant.2,
      put-more (omega (arith, loop.invariant.1, loop.invariant.2)) (put_rest (next ∙ ap (λ v. v ∷ rest) (sym c.code.ensures)) loop.invariant.3),
    )

pub returns : goal.returns
returns c =
    let loop = c.loop-j in
    put_done (put_rest (codes_over (table_in c.args.table.now).transitions loop.j c.args.b c.loop-j-test.false) loop.invariant.3)
