-- 01, "What the entries turn back", with 02's 16: the joint answer, or the number and the figure, of each case that `verdicts` answers.
use Rattle.std.specs.Prelude.{ℕ, Bool, cond, Result, Ok, Err}
use Rattle.lts.specs.Reply.{Reply, accepted, refusal}
use Rattle.formula_check.specs.Inputs.{unprepared}
use Rattle.verdicts.specs.declared.VerdictsRefusal.{VerdictsRefusal}
use Rattle.verdicts.specs.declared.VerdictsRefusal.TheVariants.{StartWrong, Unprepared}

abbrev pub verdicts_reply : Result Bool VerdictsRefusal → Reply ℕ
verdicts_reply (Ok joint) = accepted (cond joint 1 0)
verdicts_reply (Err (StartWrong i)) = refusal 16 i
verdicts_reply (Err (Unprepared why)) = unprepared why
