-- 01, "What the entries turn back": the number and the figure of each case that `read_formula` answers.
use Rattle.std.specs.Prelude.{length, Result, Ok, Err}
use Rattle.lts.specs.Reply.{Reply, accepted, refusal}
use Rattle.formula_text.specs.declared.FormulaRefusal.{FormulaRefusal}
use Rattle.formula_text.specs.declared.FormulaRefusal.TheVariants.{TooLong, NotGrammatical, NameUnknown, TooManyNodes, NoClass, TableForeign, BufferShort}

abbrev pub formula_refusal : {A : Type 0} → FormulaRefusal → Reply A
formula_refusal (TooLong length) = refusal 5 length
formula_refusal (NotGrammatical longest) = refusal 6 longest
formula_refusal (NameUnknown offset) = refusal 7 offset
formula_refusal (TooManyNodes nodes) = refusal 8 nodes
formula_refusal (NoClass node) = refusal 9 node
formula_refusal TableForeign = refusal 10 0
formula_refusal (BufferShort needed) = refusal 14 needed

abbrev pub formula_reply : Result (Unit {0}) FormulaRefusal → Reply (Unit {0})
formula_reply (Ok done) = accepted tt
formula_reply (Err why) = formula_refusal why
