-- `write_numbers` leaves the line of its numbers `pasted`: the invariant is that the columns of the first i are.
use mathlib.Core.Path.{◌≡◌, refl, ap, ◌∙◌, subst}
use mathlib.Core.List.{◌∷◌, []}
use Prim.Native.Nat.{◌+◌, ◌<◌}
use native.Mathlib.Omega.{arith}
use lib.ListN.{length, get_or, take, set, length-set}
use Rattle.columns.specs.Columns.{column}
use Rattle.columns.specs.Lines.{numbers_line}
use Rattle.columns.specs.inner.Write.{pasted}
use Rattle.columns.proofs.Laws.Pasting.{Pasting, pasting_none, pasting_more, pasting_length, columns_more, columns_line}
use Rattle.columns.proofs.Laws.Pasted.{set-pasted}
use Rattle.columns.proofs.write.write_numbers.Goals as goal

pub loop-i-init : goal.loop-i-init
loop-i-init c =
    (pasting_none _ _ (omega arith), omega arith, omega arith)

pub write_column-end-requires : goal.write_column-end-requires
write_column-end-requires c =
    omega (arith, pasting_length c.loop-i.invariant.0, c.loop-i.invariant.2)

pub loop-i-preserved : goal.loop-i-preserved
loop-i-preserved c =
    let l = c.loop-i in
    let w = c.write_column-end in
    let a = c.args in
    let there : l.i < length a.values = omega arith in
    let p = pasting_more l.invariant.0 (column (get_or a.values l.i 0)) w.new.out w.result w.ensures.out_after w.ensures.value (omega (arith, l.invariant.2)) in
    (subst (λ t. Pasting a.out.now a.at t w.new.out w.result) (columns_more a.values l.i there) p, omega arith, omega (arith, l.invariant.2))

pub bounds-out-end : goal.bounds-out-end
bounds-out-end c =
    omega (arith, pasting_length c.loop-i.invariant.0, c.loop-i.invariant.2)

pub shape_of-out : goal.shape_of-out
shape_of-out c =
    length-set c.loop-i.out c.loop-i.end 10 ∙ pasting_length c.loop-i.invariant.0

pub returns : goal.returns
returns c =
    let l = c.loop-i in
    let a = c.args in
    let done : l.i ≡ a.count = omega arith in
    let inside : l.end < length l.out = omega (arith, pasting_length l.invariant.0, l.invariant.2) in
    let p = pasting_more l.invariant.0 (10 ∷ []) (set l.out l.end 10) (l.end + 1) (set-pasted l.out l.end 10 inside) refl (omega (arith, l.invariant.2)) in
    let text = columns_line (take l.i a.values) ∙ ap (λ k. numbers_line (take k a.values)) done in
    record { value = p.ends ∙ ap (λ t. a.at + length t) text; out_after = p.is ∙ ap (pasted a.out.now a.at) text; upper_bound = omega (arith, l.invariant.2) }
