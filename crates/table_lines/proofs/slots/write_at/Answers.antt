-- `write_at` leaves `pasted`: the invariant is that the first i bytes are.
use mathlib.Core.Path.{◌≡◌, refl, sym, ap, ◌∙◌}
use Prim.Native.Nat.{◌+◌}
use native.Mathlib.Numerals.{add-one}
use mathlib.Core.List.{◌++◌, append_assoc}
use lib.ListN.{length, get_or, take, drop, set, length-set}
use lib.Seq.{paste, paste-zero, paste-suc, take-length}
use native.Mathlib.Omega.{arith}
use Rattle.table_lines.proofs.slots.write_at.Goals as goal

pub loop-i-init : goal.loop-i-init
loop-i-init c =
    (paste-zero c.args.bytes.now c.args.at c.args.part.now, omega arith, refl)

pub loop-i-preserved : goal.loop-i-preserved
loop-i-preserved c =
    let a = c.args in
    let l = c.loop-i in (
      ap (λ b. set b (a.at + l.i) (get_or a.part.now l.i 0)) l.invariant.0
          ∙ paste-suc a.bytes.now a.at a.part.now l.i 0 (omega arith) (omega arith)
          ∙ ap (paste a.bytes.now a.at a.part.now) (sym (add-one l.i)),
      omega arith,
      length-set l.bytes (a.at + l.i) (get_or a.part.now l.i 0) ∙ l.invariant.2,
    )

pub shape_of-bytes : goal.shape_of-bytes
shape_of-bytes c =
    c.loop-i.invariant.2

pub returns : goal.returns
returns c =
    let a = c.args in
    let l = c.loop-i in
    let all : l.i ≡ length a.part.now = omega arith in
    let rest = drop (a.at + length a.part.now) a.bytes.now in
    l.invariant.0 ∙ ap (paste a.bytes.now a.at a.part.now) all
    ∙ ap (λ p. (take a.at a.bytes.now ++ p) ++ rest) (take-length a.part.now)
    ∙ append_assoc (take a.at a.bytes.now) a.part.now rest
