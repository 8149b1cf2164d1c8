-- `kept::same_set` meets its contract: nothing is apart exactly if the masks so far are the same.
use Prim.Native.Nat.{ℕ, ◌+◌, ◌-◌, ◌*◌, ◌<◌, ◌≤◌}
use mathlib.Core.Path.{sym, ap, ◌∙◌}
use mathlib.Core.List.{List}
use native.Mathlib.Omega.{arith}
use borrow.Author.Rules.{rules}
use lib.ListN.{get_or}
use Rattle.lts.proofs.Laws.Decides.{decided_zero}
use Rattle.kept_sets.proofs.Laws.Kept.{base-few, set-at_word, set_is, Told, told_none, told_more}
use Rattle.kept_sets.proofs.kept.same_set.Goals as goal

pub overflow_mul-base : goal.overflow_mul-base
overflow_mul-base c =
    let a = c.args in
    record { fits = omega (arith, base-few a.k a.states c.requires.work_length_in_bounds.1.0 c.requires.work_length_in_bounds.1.1) }

pub loop-s-init : goal.loop-s-init
loop-s-init c =
    (omega arith, told_none c.args.work.now (c.args.k * c.args.states) c.args.set.now)

pub overflow_add-base : goal.overflow_add-base
overflow_add-base c =
    let room : c.args.k * c.args.states + c.loop-s.s < 65536 =
    omega (arith, base-few c.args.k c.args.states c.requires.work_length_in_bounds.1.0 c.requires.work_length_in_bounds.1.1, c.loop-s-test.true) in
    record { fits = omega (arith, room) }

pub word_at-requires : goal.word_at-requires
word_at-requires c =
    let room : c.args.k * c.args.states + c.loop-s.s < 65536 =
    omega (arith, base-few c.args.k c.args.states c.requires.work_length_in_bounds.1.0 c.requires.work_length_in_bounds.1.1, c.loop-s-test.true) in
    omega (arith, room, c.requires.work_length_in_bounds.0)

pub loop-s-preserved : goal.loop-s-preserved
loop-s-preserved c =
    let l = c.loop-s in
    let a = c.args in
    let p = c.apart-other in (
      omega arith,
      told_more a.work.now (a.k * a.states) a.set.now l.s l.other c.word_at.result p.result l.invariant.1 c.word_at.ensures p.ensures.other_value p.ensures.value,
    )

pub returns : goal.returns
returns c =
    let l = c.loop-s in
    let a = c.args in
    decided_zero l.other
    (λ e. set_is a.states a.work.now a.k a.set.now c.requires.work_length_in_bounds.1.1 c.requires.set (λ j h. l.invariant.1.same e j (omega arith)))
    (λ e. l.invariant.1.none (λ j h. sym (set-at_word a.work.now a.states a.k j (omega arith)) ∙ ap (λ (x : List ℕ). get_or x j 0) e))
