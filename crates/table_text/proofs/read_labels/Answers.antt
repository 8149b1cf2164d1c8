-- `read_labels` reads every label: the invariant is `NamesSoFar`.
use mathlib.Core.Path.{ap, ◌∙◌}
use Prim.Native.Nat.{◌+◌, ◌-◌}
use lib.ListN.{length}
use native.Mathlib.Omega.{arith}
use Rattle.std.proofs.lemmas.Result.{err_from_is_err_and}
use Rattle.table_text.proofs.Laws.Readings.{names-start, names-refused, names-go-on, names-end}
use Rattle.table_lines.specs.inner.LineReplies.{header}
use Rattle.table_text.proofs.read_labels.Goals as goal

pub loop-count-init : goal.loop-count-init
loop-count-init c =
    let a = c.args in
    (names-start (header a.counts) a.text.now a.from a.names.now c.requires.0 c.requires.1.0, ap length c.requires.1.0)

pub read_label-requires : goal.read_label-requires
read_label-requires c =
    let l = c.loop-count in omega (arith, l.invariant.0.within, l.invariant.0.few)

pub returns-in_err-at : goal.returns-in_err-at
returns-in_err-at c =
    let h = header c.args.counts in
    let l = c.loop-count in
    let so_far = l.invariant.0 in
    let p = err_from_is_err_and c.from_residual.result c.from_residual.ensures.1 in
    rw (p.1, p.2)
    (names-refused h c.args.text.now c.args.from l.names l.at l.count so_far c.loop-count-test.true
    (c.in_err-at.ensures h (h.labels - (l.count + 1)) so_far.names so_far.counts so_far.all-names so_far.kept))

pub loop-count-preserved : goal.loop-count-preserved
loop-count-preserved c =
    let h = header c.args.counts in
    let l = c.loop-count in
    let so_far = l.invariant.0 in (
      names-go-on h c.args.text.now c.args.from l.names l.at l.count so_far c.loop-count-test.true c.in_ok-at.at c.read_label.new.names
          (c.in_ok-at.ensures h (h.labels - (l.count + 1)) so_far.names so_far.counts so_far.all-names so_far.kept),
      c.read_label.auto.names ∙ l.invariant.1,
    )

pub returns : goal.returns
returns c =
    let l = c.loop-count in
    names-end (header c.args.counts) c.args.text.now c.args.from l.names l.at l.count l.invariant.0 c.loop-count-test.false
