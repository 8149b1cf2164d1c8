-- `at_atom` looks for the two marks in turn.
use mathlib.Core.Path.{sym, ◌∙◌}
use mathlib.Core.Logic.{inl}
use Rattle.formula_terms.proofs.ReadingTerms.{marked-where, unmarked-where, atom-there, atom_last}
use Rattle.formula_terms.proofs.at_atom.Goals as goal

pub returns-then-is_some : goal.returns-then-is_some
returns-then-is_some c =
    let a = c.args in
    let m = marked-where a.text.now a.c.at 84 c.mark.result c.mark.ensures (sym c.is_some.ensures ∙ c.if-is_some.true) in
    rw c.if-is_some.true (atom-there a.text.now a.c.at (inl m.1.here))

pub returns-else-is_some : goal.returns-else-is_some
returns-else-is_some c =
    let a = c.args in
    let no_true = unmarked-where a.text.now a.c.at 84 c.mark.result c.mark.ensures (sym c.is_some.ensures ∙ c.if-is_some.false) in
    let m = c.mark-else-is_some in
    let b = c.is_some-else-is_some in
    atom_last a.text.now a.c.at m.result m.ensures b.result b.ensures no_true
