-- The formula of a line and of its parts, which are written out first.
use Rattle.std.specs.Prelude.{List, ℕ}
use Rattle.actl.specs.Formulas.{Formula}
use Rattle.actl.specs.Grammar.{Disjunction, Conjunction, Term}
use Rattle.actl.specs.WrittenOut.{written_out, written_out_conjunction, written_out_term}
use Rattle.actl.specs.Meaning.{formula_of, formula_of_term}

-- Of a line, and of its parts.
abbrev pub formula_f : List (List ℕ) → Disjunction → Formula
formula_f N f = formula_of N (written_out f)

abbrev pub formula_a : List (List ℕ) → Conjunction → Formula
formula_a N c = formula_of_term N (written_out_conjunction c)

abbrev pub formula_t : List (List ℕ) → Term → Formula
formula_t N t = formula_of_term N (written_out_term t)
