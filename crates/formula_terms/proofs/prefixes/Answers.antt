-- `prefixes` reads none, or one and those behind it.
use Rattle.actl.specs.inner.Readers.{names_in}
use Rattle.formula_terms.proofs.ReadingTerms.{passed_none, passed-one, passed_fails, no-atom}
use Rattle.formula_terms.proofs.prefixes.Goals as goal

pub returns-then-at_atom : goal.returns-then-at_atom
returns-then-at_atom c =
    let N = names_in c.args.source.now.table.now in
    let s = c.args.source.now.text.now in
    let none = passed_none N s c.args.c.at c.args.n c.args.lost c.args.nodes.now c.requires.0.token c.requires.1 in
    record { passed = none; atom = c.at_atom.ensures.yes c.if-at_atom.true }

pub prefix-requires : goal.prefix-requires
prefix-requires c = (c.requires.0, c.requires.1, no-atom c.at_atom.ensures c.if-at_atom.false)

pub further-requires : goal.further-requires
further-requires c =
    let pre = c.requires in
    let passed = passed-one pre.1 c.in_ok-x.ensures in
    (record { table = pre.0.table; short = pre.0.short; token = passed.token }, passed.room)

pub returns : goal.returns
returns c = passed_fails (passed-one c.requires.1 c.in_ok-x.ensures) c.further.new.nodes c.further.result c.further.ensures
