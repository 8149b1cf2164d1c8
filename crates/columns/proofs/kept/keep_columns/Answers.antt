-- `keep_columns` meets its contract: one column more is kept each turn.
use Prim.Native.Nat.{◌*◌, ◌+◌, ◌≤◌}
use native.Mathlib.Omega.{arith}
use lib.ListN.{length}
use Rattle.columns.proofs.Laws.Kept.{kept_more, kept-all}
use Rattle.columns.proofs.Laws.Pasting.{pasting_none, pasting_length}
use Rattle.columns.proofs.kept.keep_columns.Goals as goal

pub loop-n-init : goal.loop-n-init
loop-n-init c =
    (pasting_none c.args.kept.now 0 (omega arith), omega arith)

pub overflow_mul-n : goal.overflow_mul-n
overflow_mul-n c =
    let room : c.loop-n.n * 6 + 6 ≤ length c.args.kept.now = omega (arith, c.loop-n-test.true, c.requires.1) in
    omega (arith, room)

pub write_small-requires : goal.write_small-requires
write_small-requires c =
    let room : c.loop-n.n * 6 + 6 ≤ length c.args.kept.now = omega (arith, c.loop-n-test.true, c.requires.1) in
    (omega (arith, c.loop-n-test.true, c.requires.0), omega (arith, room, pasting_length c.loop-n.invariant.0))

pub loop-n-preserved : goal.loop-n-preserved
loop-n-preserved c =
    let room : c.loop-n.n * 6 + 6 ≤ length c.args.kept.now = omega (arith, c.loop-n-test.true, c.requires.1) in
    let l = c.loop-n in (
      kept_more c.args.kept.now l.n l.kept c.write_small.new.out l.invariant.0
          (omega (arith, c.loop-n-test.true, c.requires.0)) c.write_small.ensures (room),
      omega (arith, c.loop-n-test.true),
    )

pub shape_of-kept : goal.shape_of-kept
shape_of-kept c =
    pasting_length c.loop-n.invariant.0

pub returns : goal.returns
returns c =
    let l = c.loop-n in
    λ n h. kept-all c.args.kept.now l.n l.kept l.invariant.0 (omega (arith, l.invariant.1, c.requires.0)) n (omega (arith, h, c.loop-n-test.false))
