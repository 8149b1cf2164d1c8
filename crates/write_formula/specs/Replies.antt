-- 01, "What the entries turn back", with 02's 15: the length, or the number and the figure, of each case that `write_formula` answers.
use Rattle.std.specs.Prelude.{ℕ, Result, Ok, Err}
use Rattle.lts.specs.Reply.{Reply, accepted, refusal}
use Rattle.formula_check.specs.Inputs.{unprepared}
use Rattle.write_formula.specs.declared.WriteRefusal.{WriteRefusal}
use Rattle.write_formula.specs.declared.WriteRefusal.TheVariants.{TooLong, Unprepared}

abbrev pub write_reply : Result ℕ WriteRefusal → Reply ℕ
write_reply (Ok n) = accepted n
write_reply (Err (TooLong n)) = refusal 15 n
write_reply (Err (Unprepared why)) = unprepared why
