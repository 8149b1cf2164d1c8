-- `kept::store_set` meets its contract: one mask more each turn.
use mathlib.Core.Path.{◌≡◌, subst}
use Prim.Native.Nat.{◌+◌, ◌-◌, ◌*◌, ◌<◌, ◌≤◌}
use native.Mathlib.Omega.{arith}
use Rattle.kept_sets.specs.inner.Kept.{Stored}
use Rattle.kept_sets.proofs.Laws.Kept.{base-few, stored_none, stored_more}
use Rattle.kept_sets.proofs.kept.store_set.Goals as goal

pub overflow_mul-base : goal.overflow_mul-base
overflow_mul-base c =
    let a = c.args in
    record { fits = omega (arith, base-few a.k a.states c.requires.1.0 c.requires.1.1) }

pub loop-s-init : goal.loop-s-init
loop-s-init c =
    (omega arith, stored_none _ _ _)

pub overflow_add-base : goal.overflow_add-base
overflow_add-base c =
    let room : c.args.k * c.args.states + c.loop-s.s < 65536 = omega (arith, base-few c.args.k c.args.states c.requires.1.0 c.requires.1.1, c.loop-s-test.true) in
    record { fits = omega (arith, room) }

pub put_word-requires : goal.put_word-requires
put_word-requires c =
    let room : c.args.k * c.args.states + c.loop-s.s < 65536 = omega (arith, base-few c.args.k c.args.states c.requires.1.0 c.requires.1.1, c.loop-s-test.true) in
    omega (arith, room, c.requires.0, c.loop-s.invariant.1.long)

pub loop-s-preserved : goal.loop-s-preserved
loop-s-preserved c =
    (omega arith, stored_more c.loop-s.invariant.1 c.put_word.ensures)

pub shape_of-work : goal.shape_of-work
shape_of-work c =
    c.loop-s.invariant.1.long

pub returns : goal.returns
returns c =
    let a = c.args in
    let l = c.loop-s in
    let e : l.s ≡ a.states = omega arith in
    subst (λ n. Stored a.work.now (a.k * a.states) n a.set.now l.work) e l.invariant.1
