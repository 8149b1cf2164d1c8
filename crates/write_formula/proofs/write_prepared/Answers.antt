-- `write_prepared` copies the text if it has at most 512 bytes.
use borrow.Author.Rules.{rules}
use mathlib.Core.Path.{◌≡◌, sym}
use native.Mathlib.Omega.{arith}
use lib.ListN.{length, take}
use lib.Seq.{length-take-le}
use Rattle.write_formula.proofs.Laws.Line.{line-long, line-fits}
use Rattle.write_formula.proofs.write_prepared.Goals as goal

pub returns-then-n-gt-LONGEST_TEXT : goal.returns-then-n-gt-LONGEST_TEXT
returns-then-n-gt-LONGEST_TEXT c =
    line-long _ _ _ _ _ _ c.write_nodes-n.ensures c.if-n-gt-LONGEST_TEXT.true

pub slice_bounds-copy-end : goal.slice_bounds-copy-end
slice_bounds-copy-end c =
    let whole : length (take c.write_nodes-n.result c.write_nodes-n.new.out) ≡ c.write_nodes-n.result = let h = c.requires.holds_formula in
    let a = c.write_nodes-n.ensures.adds h.formula h.prepared in
    length-take-le c.write_nodes-n.result c.write_nodes-n.new.out (omega (arith, a.long, c.if-n-gt-LONGEST_TEXT.false)) in
    sym (whole)

pub copy-requires : goal.copy-requires
copy-requires c =
    let whole : length (take c.write_nodes-n.result c.write_nodes-n.new.out) ≡ c.write_nodes-n.result = let h = c.requires.holds_formula in
    let a = c.write_nodes-n.ensures.adds h.formula h.prepared in
    length-take-le c.write_nodes-n.result c.write_nodes-n.new.out (omega (arith, a.long, c.if-n-gt-LONGEST_TEXT.false)) in
    omega (arith, whole, c.requires.holds_table.1, c.if-n-gt-LONGEST_TEXT.false)

pub returns : goal.returns
returns c =
    line-fits _ _ _ _ _ _ c.write_nodes-n.ensures (omega (arith, c.if-n-gt-LONGEST_TEXT.false)) c.copy.ensures.after
