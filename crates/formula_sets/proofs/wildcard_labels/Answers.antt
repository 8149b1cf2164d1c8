-- `wildcard_labels` reads `*`, `?` or `!`, or none of them stands at the cursor.
use Rattle.actl.specs.inner.Readers.{names_in}
use Rattle.formula_sets.proofs.ReadingSets.{operand-any, operand_received, sent_says}
use Rattle.formula_sets.proofs.wildcard_labels.Goals as goal

pub returns-in-Some : goal.returns-in-Some
returns-in-Some c = λ lost. operand-any (names_in c.args.source.now.table.now) lost c.in-Some.ensures c.all_labels.ensures

pub returns-in-Some-directed_wildcard : goal.returns-in-Some-directed_wildcard
returns-in-Some-directed_wildcard c =
    let h = c.in-Some-directed_wildcard.ensures in
    λ lost. operand_received (names_in c.args.source.now.table.now) lost h.0 h.1

pub returns : goal.returns
returns c =
    let a = c.args in
    let N = names_in a.source.now.table.now in
    let s = a.source.now.text.now in
    let last = c.directed_wildcard-2 in
    sent_says N s a.c.at last.result last.ensures c.in_default.ensures c.in_default-directed_wildcard.ensures
