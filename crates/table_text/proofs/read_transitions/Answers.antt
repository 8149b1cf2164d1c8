-- `read_transitions` reads every transition and the end of the text: the invariant is `TransitionsSoFar`.
use mathlib.Core.Path.{◌≡◌, ap}
use Prim.Native.Nat.{◌+◌, ◌-◌}
use lib.ListN.{length}
use native.Mathlib.Omega.{arith}
use Rattle.table_text.proofs.Laws.Readings.{steps-start, steps-refused, text-follows, steps-end, line_taken}
use Rattle.table_lines.specs.inner.LineReplies.{header}
use Rattle.std.proofs.lemmas.Result.{err_from_is_err_and}
use Rattle.table_text.proofs.read_transitions.Goals as goal

pub loop-count-init : goal.loop-count-init
loop-count-init c =
    let a = c.args in
    record {
      within = c.requires.from_in_bounds.0;
      few = omega arith;
      long = ap length c.requires.from_in_bounds.1;
      so_far = λ names e. steps-start (header a.counts) a.text.now a.from names a.slots.now c.requires.from_in_bounds.1;
    }

pub returns-in_err-at : goal.returns-in_err-at
returns-in_err-at c =
    let h = header c.args.counts in
    let l = c.loop-count in
    let p = err_from_is_err_and c.from_residual.result c.from_residual.ensures.1 in
    rw (p.1, p.2) (λ names e.
    let r = l.invariant.so_far names e in
    steps-refused h c.args.text.now c.args.from names l.slots l.at l.count r c.loop-count-test.true
    (c.in_err-at.ensures (h.transitions - (l.count + 1)) names r.steps e r.counts r.kept))

pub loop-count-preserved : goal.loop-count-preserved
loop-count-preserved c =
    let l = c.loop-count in
    line_taken c.args.counts c.args.text.now c.args.from l.slots l.at l.count l.invariant c.loop-count-test.true
    c.in_ok-at.at c.read_transition.new.slots c.in_ok-at.ensures c.read_transition.auto.slots

pub returns-then-at-text : goal.returns-then-at-text
returns-then-at-text c =
    let a = c.args in
    let l = c.loop-count in
    let all_read : l.count ≡ a.counts.transitions = omega (arith, l.invariant.few, c.loop-count-test.false) in
    λ names e. text-follows (header a.counts) a.text.now a.from names l.slots l.at l.count (l.invariant.so_far names e)
    all_read c.if-at-text.true e _ (omega arith)

pub returns : goal.returns
returns c =
    let a = c.args in
    let l = c.loop-count in
    let all_read : l.count ≡ a.counts.transitions = omega (arith, l.invariant.few, c.loop-count-test.false) in
    λ names e. steps-end (header a.counts) a.text.now a.from names l.slots l.at l.count (l.invariant.so_far names e)
    all_read c.if-at-text.false
