-- `write_bytes` copies the slots, and writes the node count before them.
use mathlib.Core.Path.{◌≡◌, sym}
use native.Mathlib.Omega.{arith}
use lib.ListN.{length, take}
use lib.Seq.{length-take-le}
use Rattle.actl.specs.Sizes.{formula_length}
use Rattle.formula_text.proofs.ReadingAnswers.{bytes_copied}
use Rattle.formula_text.proofs.writing.write_bytes.Goals as goal

pub slice_bounds-copy-end : goal.slice_bounds-copy-end
slice_bounds-copy-end c =
    let copied : length (take formula_length c.args.nodes.now) ≡ formula_length = length-take-le formula_length c.args.nodes.now (omega (arith, c.requires.0)) in
    sym (copied)

pub copy-requires : goal.copy-requires
copy-requires c =
    let copied : length (take formula_length c.args.nodes.now) ≡ formula_length = length-take-le formula_length c.args.nodes.now (omega (arith, c.requires.0)) in
    omega (arith, c.requires.2, copied)

pub returns : goal.returns
returns c =
    let copied : length (take formula_length c.args.nodes.now) ≡ formula_length = length-take-le formula_length c.args.nodes.now (omega (arith, c.requires.0)) in
    let a = c.args in
    bytes_copied a.nodes.now a.formula.now _ a.n _ (omega (arith, c.requires.0)) c.requires.2 (copied)
    c.copy.ensures.after
