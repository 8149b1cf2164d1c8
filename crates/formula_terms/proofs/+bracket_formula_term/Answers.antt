-- The readers of formulas: formulas, terms and brackets call each other, and the unread bytes fall.
use Prim.Native.Nat.{◌+◌}
use Rattle.std.specs.Prelude.{Ok}
use Rattle.actl.specs.inner.Readers.{names_in}
use Rattle.formula_terms.proofs.ReadingChains.{awaiting_first, formula-read, awaiting_or, awaiting_and}
use Rattle.formula_terms.proofs.ReadingTerms.{term-paren, term-true}
use Rattle.formula_terms.proofs.+bracket_formula_term.Goals as goal

-- Each turn of a formula's loop reads a term, and the mark behind it.
pub formula-loop-x-init : goal.formula-loop-x-init
formula-loop-x-init t c =
    let a = c.args in
    let N = names_in a.source.now.table.now in
    let s = a.source.now.text.now in
    awaiting_first N s a.c.at a.n a.lost a.nodes.now c.requires.0.token c.requires.1

-- `&` is behind it.
pub formula-loop-x-preserved-in-Some : goal.formula-loop-x-preserved-in-Some
formula-loop-x-preserved-in-Some t c =
    awaiting_and c.loop-x.invariant c.requires.1 c.in_ok-x.ensures c.skip_blanks-behind.ensures c.in-Some.ensures c.conjoin.ensures

-- Neither is.
pub formula-returns-in_default-token : goal.formula-returns-in_default-token
formula-returns-in_default-token t c =
    formula-read c.loop-x.invariant c.requires.1 c.in_ok-x.ensures c.skip_blanks-behind.ensures c.in_default.ensures c.in_default-token.ensures

-- Or `|` is.
pub formula-loop-x-preserved : goal.formula-loop-x-preserved
formula-loop-x-preserved t c =
    awaiting_or c.loop-x.invariant c.requires.1 c.in_ok-x.ensures c.skip_blanks-behind.ensures c.in-Some-token.ensures c.disjoin.ensures

-- A term is what stands before an atom, and `(` with a bracket.
pub term-returns-in-Some : goal.term-returns-in-Some
term-returns-in-Some t c =
    let x = c.in_ok-x.x in
    let read = c.in_ok-x.ensures in
    let b = c.bracket in
    read.passed.says b.new.nodes b.result
    (term-paren (names_in c.args.source.now.table.now) x.count x.lost c.prefixes.new.nodes c.in-Some.ensures b.new.nodes b.result b.ensures)

-- Or `T`.
pub term-returns : goal.term-returns
term-returns t c =
    let x = c.in_ok-x.x in
    let end = c.in-Some-mark.end in
    c.in_ok-x.ensures.passed.says c.put.new.nodes (Ok (record { end = end; count = x.count + 1; lost = x.lost })) (term-true c.in-Some-mark.ensures c.put.ensures)
