use mathlib.Core.Path.{◌∙◌, ap}
use mathlib.Core.List.{◌++◌}
use Prim.Native.Nat.{◌-◌}
use native.Mathlib.Omega.{arith}
use lib.ListN.{length, take, drop, length-take, length-drop}
use Rattle.files.proofs.Scanning.{kept_part, kept_whole}
use Rattle.files.proofs.keep.Goals as goal

pub slice_bounds-copy-end : goal.slice_bounds-copy-end
slice_bounds-copy-end c =
    omega (arith, length-take c.min-n.result c.args.chunk.now)

pub copy-requires : goal.copy-requires
copy-requires c =
    let a = c.args in
    let n = c.min-n.result in
    omega (arith, length-take n a.chunk.now, length-take (length a.head.now - a.at) (drop a.at a.head.now), length-drop a.at a.head.now)

pub returns-then-at-lt-KEPT : goal.returns-then-at-lt-KEPT
returns-then-at-lt-KEPT c =
    let a = c.args in
    let n = c.min-n in
    ap (λ l. take a.at a.head.now ++ (l ++ drop (length a.head.now - a.at) (drop a.at a.head.now))) c.copy.ensures.after
    ∙ kept_part a.head.now a.chunk.now a.at n.result c.requires c.if-at-lt-KEPT.true n.ensures

pub returns-else-at-lt-KEPT : goal.returns-else-at-lt-KEPT
returns-else-at-lt-KEPT c =
    kept_whole c.args.head.now c.args.chunk.now c.args.at c.requires c.if-at-lt-KEPT.false
