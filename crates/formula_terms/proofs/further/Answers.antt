-- `further` reads prefixes: each turn of its loop takes one, up to a `T` or a `(`.
use native.Mathlib.Omega.{arith}
use Rattle.std.specs.Prelude.{Err}
use Rattle.std.proofs.lemmas.Result.{err_from_is_err_and}
use Rattle.actl.specs.inner.Readers.{names_in}
use Rattle.formula_terms.proofs.ReadingTerms.{passed_none, passed-one, passed_then, no-atom}
use Rattle.formula_terms.proofs.further.Goals as goal

pub loop-nodes-init : goal.loop-nodes-init
loop-nodes-init c =
    let N = names_in c.args.source.now.table.now in
    let s = c.args.source.now.text.now in
    passed_none N s c.args.c.at c.args.n c.args.lost c.args.nodes.now c.requires.0.token c.requires.1

pub returns : goal.returns
returns c = record { passed = c.loop-nodes.invariant; atom = c.at_atom.ensures.yes c.loop-nodes-test.false }

pub prefix-requires : goal.prefix-requires
prefix-requires c =
    let pre = c.requires in
    let j = c.loop-nodes.invariant in
    (record { table = pre.0.table; short = pre.0.short; token = j.token }, j.room, no-atom c.at_atom.ensures c.loop-nodes-test.true)

pub returns-in_err-x : goal.returns-in_err-x
returns-in_err-x c =
    let e = err_from_is_err_and c.from_residual.result c.from_residual.ensures.1 in
    rw (e.1, e.2) (c.loop-nodes.invariant.says c.prefix.new.nodes (Err c.in_err-x.field-0.0) c.in_err-x.ensures)

pub loop-nodes-smaller : goal.loop-nodes-smaller
loop-nodes-smaller c = let p = c.in_ok-x.ensures in omega (arith, p.up, p.moves.within)

pub loop-nodes-preserved : goal.loop-nodes-preserved
loop-nodes-preserved c = let j = c.loop-nodes.invariant in passed_then j (passed-one j.room c.in_ok-x.ensures)
