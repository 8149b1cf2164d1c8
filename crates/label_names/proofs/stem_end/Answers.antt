-- `stem_end` answers `stem_end`: the invariant is `StemSoFar`, what is left of the run.
use mathlib.Core.Path.{◌≡◌, sym, ap, ◌∙◌}
use Prim.Native.Nat.{◌+◌}
use native.Mathlib.Omega.{arith}
use Rattle.lts.proofs.Laws.Stems.{no_text, no_letter, run-starts, run-at-end, run-stops, run_goes_on, run-full}
use Rattle.label_names.proofs.stem_end.Goals as goal

pub returns-then-text-from : goal.returns-then-text-from
returns-then-text-from c =
    no_text c.args.text.now c.args.from c.if-text-from.true

pub returns-then-not-is_lower : goal.returns-then-not-is_lower
returns-then-not-is_lower c =
    no_letter c.args.text.now c.args.from c.if-text-from.false (sym c.is_lower.ensures ∙ c.if-not-is_lower.true)

pub loop-n-init : goal.loop-n-init
loop-n-init c =
    run-starts c.args.text.now c.args.from c.if-text-from.false (sym c.is_lower.ensures ∙ c.if-not-is_lower.false)

pub returns-then-text-to : goal.returns-then-text-to
returns-then-text-to c =
    let l = c.loop-n in
    run-at-end c.args.text.now c.args.from l.n l.invariant c.if-text-to.true

pub returns-then-not-is_name_byte : goal.returns-then-not-is_name_byte
returns-then-not-is_name_byte c =
    let l = c.loop-n in
    run-stops c.args.text.now c.args.from l.n l.invariant c.loop-n-test.true c.if-text-to.false
    (sym c.is_name_byte.ensures ∙ c.if-not-is_name_byte.true)

pub loop-n-preserved : goal.loop-n-preserved
loop-n-preserved c =
    let l = c.loop-n in
    run_goes_on c.args.text.now c.args.from l.n l.invariant c.loop-n-test.true c.if-text-to.false
    (sym c.is_name_byte.ensures ∙ c.if-not-is_name_byte.false)

pub overflow_add-result : goal.overflow_add-result
overflow_add-result c =
    omega (arith, c.loop-n.invariant.within)

pub returns : goal.returns
returns c =
    let l = c.loop-n in
    let whole : l.n ≡ 12 = omega (arith, l.invariant.few, c.loop-n-test.false) in
    ap (λ n. c.args.from + n) (sym whole) ∙ run-full c.args.text.now c.args.from l.n l.invariant c.loop-n-test.false
