-- The number and the figure of each refusal that every entry over a prepared table and a prepared formula gives first.
use Rattle.std.specs.Prelude.{ℕ, Result, Ok, Err}
use Rattle.lts.specs.Reply.{Reply, accepted, refusal}
use Rattle.formula_check.specs.declared.inputs.Unprepared.{Unprepared}
use Rattle.formula_check.specs.declared.inputs.Unprepared.TheVariants.{TableForeign, FormulaForeign, BufferShort}

abbrev pub unprepared_number : Unprepared → ℕ
unprepared_number TableForeign = 10
unprepared_number FormulaForeign = 10
unprepared_number (BufferShort needed) = 14

abbrev pub unprepared_figure : Unprepared → ℕ
unprepared_figure TableForeign = 0
unprepared_figure FormulaForeign = 1
unprepared_figure (BufferShort needed) = needed

abbrev pub unprepared : {A : Type 0} → Unprepared → Reply A
unprepared why = refusal (unprepared_number why) (unprepared_figure why)

abbrev pub inputs_reply : Result (Unit {0}) Unprepared → Reply (Unit {0})
inputs_reply (Ok held) = accepted tt
inputs_reply (Err why) = unprepared why
