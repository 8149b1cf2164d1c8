-- `write_header` leaves line 1 `pasted`: four columns and the LF.
use mathlib.Core.Path.{◌∙◌}
use native.Mathlib.Omega.{arith}
use lib.ListN.{length-set}
use Rattle.columns.specs.inner.Write.{pasted}
use Rattle.lts.specs.Text.{ended, header_line}
use Rattle.written_lines.proofs.Laws.Lines.{header-stands}
use Rattle.written_lines.proofs.write_header.Goals as goal

pub shape_of-text : goal.shape_of-text
shape_of-text c =
    length-set c.write_small-4.new.out 24 _
    ∙ c.write_small-4.auto.out ∙ c.write_small-3.auto.out ∙ c.write_small-2.auto.out ∙ c.write_small.auto.out

pub returns : goal.returns
returns c =
    let e = c.args.text.now in
    let s = c.state_count.ensures in
    let l = c.label_count.ensures in
    let t = c.transition_count.ensures in
    let i = c.start_state.ensures in
    header-stands e c.requires.1 c.state_count.result c.label_count.result c.transition_count.result
    c.start_state.result (omega (arith, s.fits)) (omega (arith, l.fits)) (omega (arith, t.fits)) (omega (arith, i.fits))
    c.write_small.new.out c.write_small-2.new.out c.write_small-3.new.out c.write_small-4.new.out
    c.write_small.ensures c.write_small-2.ensures c.write_small-3.ensures c.write_small-4.ensures
    ∙ (λ j. pasted e 0 (ended (header_line (s.count j) (l.count j) (t.count j) (i.count j))))
