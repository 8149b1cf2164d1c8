-- `put_state` meets its contract: the transitions that leave a state stand together.
use mathlib.Core.Path.{◌≡◌, sym, ap, ◌∙◌}
use mathlib.Core.List.{[], ◌∷◌, map}
use Prim.Native.Nat.{suc, ◌+◌, ◌<◌}
use native.Mathlib.Numerals.{add-one}
use native.Mathlib.Omega.{arith}
use lib.ListN.{length}
use lib.Seq.{slice}
use Rattle.lts.specs.inner.Sizes.{most_steps}
use Rattle.lts.specs.inner.Prepared.{table_in}
use Rattle.table_steps.specs.inner.StepArray.{step_code, exits_below}
use Rattle.table_steps.proofs.Laws.Exits.{exits_at-most}
use Rattle.table_steps.proofs.Laws.StepArray.{put-start, put-more, put_done, put_as, steps_leave, steps_idle}
use Rattle.table_steps.proofs.put_state.Goals as goal

pub put_transitions-requires : goal.put_transitions-requires
put_transitions-requires c =
    let few = exits_at-most (table_in c.args.table.now).transitions (c.args.s + 1) in
    let taken = c.if-a-b.true in
    let bound = c.requires.a_value.1 in
    let most = c.requires.holds_table.in_range.few_transitions in
    record {
      holds_table = c.requires.holds_table;
      a_le_b = (omega arith, omega (arith, few, bound));
      steps_len =
          (c.requires.steps_len.0, omega (arith, few, most, bound, c.requires.steps_len.1));
    }

pub returns-then-a-b : goal.returns-then-a-b
returns-then-a-b c =
    let next : c.args.b ≡ exits_below (table_in c.args.table.now).transitions (suc c.args.s) = c.requires.a_value.1 ∙ ap (exits_below (table_in c.args.table.now).transitions) (add-one c.args.s) in
    let t = table_in c.args.table.now in
    let taken = c.if-a-b.true in
    let below = exits_below t.transitions in
    let s = c.args.s in
    let same : slice c.args.a c.args.b t.transitions ≡ slice (below s) (below (suc s)) t.transitions =
    (λ i. slice (c.requires.a_value.0 i) (next i) t.transitions) in
    let leave = steps_leave t c.requires.holds_table.in_range s (omega (arith, c.requires.a_value.0, next)) in
    put_as (ap (map step_code) (same ∙ sym leave)) c.put_transitions.ensures

pub offset_bounds-steps-at : goal.offset_bounds-steps-at
offset_bounds-steps-at c =
    let room : (c.args.at < most_steps) × (c.args.at < length c.args.steps.now) = let few = exits_at-most (table_in c.args.table.now).transitions c.args.s in
    let most = c.requires.holds_table.in_range.few_transitions in
    let fits : c.args.at < most_steps = omega (arith, few, most, c.requires.a_value.0, c.requires.steps_len.1.0, c.requires.steps_len.1.1) in
    (fits, omega (arith, c.requires.steps_len.0)) in
    omega (arith, (room).0)

pub bounds-steps-at : goal.bounds-steps-at
bounds-steps-at c =
    let room : (c.args.at < most_steps) × (c.args.at < length c.args.steps.now) = let few = exits_at-most (table_in c.args.table.now).transitions c.args.s in
    let most = c.requires.holds_table.in_range.few_transitions in
    let fits : c.args.at < most_steps = omega (arith, few, most, c.requires.a_value.0, c.requires.steps_len.1.0, c.requires.steps_len.1.1) in
    (fits, omega (arith, c.requires.steps_len.0)) in
    omega (arith, (room).0)

pub overflow_add-result : goal.overflow_add-result
overflow_add-result c =
    let room : (c.args.at < most_steps) × (c.args.at < length c.args.steps.now) = let few = exits_at-most (table_in c.args.table.now).transitions c.args.s in
    let most = c.requires.holds_table.in_range.few_transitions in
    let fits : c.args.at < most_steps = omega (arith, few, most, c.requires.a_value.0, c.requires.steps_len.1.0, c.requires.steps_len.1.1) in
    (fits, omega (arith, c.requires.steps_len.0)) in
    omega (arith, (room).0)

pub returns : goal.returns
returns c =
    let room : (c.args.at < most_steps) × (c.args.at < length c.args.steps.now) = let few = exits_at-most (table_in c.args.table.now).transitions c.args.s in
    let most = c.requires.holds_table.in_range.few_transitions in
    let fits : c.args.at < most_steps = omega (arith, few, most, c.requires.a_value.0, c.requires.steps_len.1.0, c.requires.steps_len.1.1) in
    (fits, omega (arith, c.requires.steps_len.0)) in
    let next : c.args.b ≡ exits_below (table_in c.args.table.now).transitions (suc c.args.s) = c.requires.a_value.1 ∙ ap (exits_below (table_in c.args.table.now).transitions) (add-one c.args.s) in
    let t = table_in c.args.table.now in
    let left = c.if-a-b.false in
    let idle = steps_idle t c.requires.holds_table.in_range c.args.s (omega (arith, c.requires.a_value.0, next)) in
    let one = ap (λ v. v ∷ []) c.code.ensures in
    put_as (one ∙ sym (ap (map step_code) idle)) (put_done (put-more (room).1 (put-start _ _ _)))
