-- `kept::load_set` meets its contract: one mask more each turn.
use Prim.Native.Nat.{ℕ, ◌+◌, ◌-◌, ◌*◌, ◌<◌, ◌≤◌}
use mathlib.Core.Path.{◌≡◌, sym}
use native.Mathlib.Omega.{arith}
use lib.ListN.{get_or}
use Rattle.kept_sets.specs.inner.Kept.{word_at, IsSet}
use Rattle.kept_sets.proofs.Laws.Kept.{base-few, set-set, set_next, set_is}
use Rattle.kept_sets.proofs.kept.load_set.Goals as goal

pub overflow_mul-base : goal.overflow_mul-base
overflow_mul-base c =
    let a = c.args in
    record { fits = omega (arith, base-few a.k a.states c.requires.work_length_in_bounds.1.0 c.requires.work_length_in_bounds.1.1) }

pub loop-s-init : goal.loop-s-init
loop-s-init c =
    (omega arith, c.requires.set, λ j h. absurd (omega arith))

pub overflow_add-base : goal.overflow_add-base
overflow_add-base c =
    let room : c.args.k * c.args.states + c.loop-s.s < 65536 =
    omega (arith, base-few c.args.k c.args.states c.requires.work_length_in_bounds.1.0 c.requires.work_length_in_bounds.1.1, c.loop-s-test.true) in
    record { fits = omega (arith, room) }

pub word_at-requires : goal.word_at-requires
word_at-requires c =
    let room : c.args.k * c.args.states + c.loop-s.s < 65536 =
    omega (arith, base-few c.args.k c.args.states c.requires.work_length_in_bounds.1.0 c.requires.work_length_in_bounds.1.1, c.loop-s-test.true) in
    omega (arith, room, c.requires.work_length_in_bounds.0)

pub loop-s-preserved : goal.loop-s-preserved
loop-s-preserved c =
    let l = c.loop-s in
    let a = c.args in
    let in_turn = c.loop-s-test.true in (
      omega arith,
      set-set a.states l.set l.s c.word_at.result l.invariant.1 in_turn,
      set_next (λ j. word_at a.work.now (a.k * a.states + j)) l.set l.s c.word_at.result (omega (arith, l.invariant.1.long, c.requires.work_length_in_bounds.1.1)) c.word_at.ensures l.invariant.2,
    )

pub returns : goal.returns
returns c =
    let l = c.loop-s in
    sym (set_is c.args.states c.args.work.now c.args.k l.set c.requires.work_length_in_bounds.1.1 l.invariant.1 (λ j h. sym (l.invariant.2 j (omega arith))))
