-- 01, "What the entries turn back": the number and the figure of each case that `verdict` answers.
use Rattle.std.specs.Prelude.{ℕ, Bool, cond, Result, Ok, Err}
use Rattle.lts.specs.Reply.{Reply, accepted}
use Rattle.formula_check.specs.Inputs.{unprepared}
use Rattle.formula_check.specs.declared.inputs.Unprepared.{Unprepared}

abbrev pub verdict_reply : Result Bool Unprepared → Reply ℕ
verdict_reply (Ok holds) = accepted (cond holds 1 0)
verdict_reply (Err why) = unprepared why
