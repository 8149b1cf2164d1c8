-- `verdict` meets its contract: a refusal of the inputs, and else what holds at the start.
use mathlib.Core.Path.{◌≡◌, sym, ap, ◌∙◌, subst}
use mathlib.Core.Bool.{Bool, cond}
use mathlib.Core.List.{List}
use Prim.Native.Nat.{ℕ}
use Rattle.std.specs.Prelude.{Result, Ok, Err}
use Rattle.std.proofs.lemmas.Result.{err_from_is_err_and}
use Rattle.lts.specs.Reply.{Reply, accepted}
use Rattle.lts.specs.Steps.{Table}
use Rattle.actl.specs.Formulas.{Formula}
use Rattle.formula_check.specs.declared.inputs.Unprepared.{Unprepared}
use Rattle.formula_check.proofs.Laws.Inputs.{goes_on, inputs_refused, inputs_prepared, both-held}
use Rattle.satisfaction.specs.inner.Holds.{verdict}
use Rattle.satisfaction.specs.VerdictAsked.{verdict_replied, VerdictAnswered}
use Rattle.satisfaction.proofs.Verdicts.{verdict-answered}
use Rattle.labelling.specs.Replies.{verdict_reply}
use Rattle.labelling.proofs.verdict.Goals as goal

abbrev answer : Table → Formula → Reply ℕ
answer t F = accepted (verdict t F)

-- What the answer means follows from what it is.
abbrev Promised : List ℕ → List ℕ → Result Bool Unprepared → Type 0
Promised table formula r = (verdict_reply r ≡ verdict_replied table formula) × VerdictAnswered table formula (verdict_reply r)

promised : (table formula : List ℕ) (r : Result Bool Unprepared) → verdict_reply r ≡ verdict_replied table formula → Promised table formula r
promised table formula r e = (e, subst (VerdictAnswered table formula) (sym e) (verdict-answered table formula))

pub returns-in_err-check_inputs : goal.returns-in_err-check_inputs
unfolding verdict_replied
returns-in_err-check_inputs c =
    let a = c.args in
    let e = err_from_is_err_and c.from_residual.result c.from_residual.ensures.1 in
    let w = promised a.table.now a.formula.now (Err c.in_err-check_inputs.field-0.0)
    (inputs_refused a.table.now a.formula.now c.check_inputs.ensures answer c.in_err-check_inputs.was) in
    rw (e.1, e.2) (record { result_value = w.0; verdict_answered = w.1 })

pub holds_at_start-requires : goal.holds_at_start-requires
holds_at_start-requires c =
    let w = both-held _ _ (inputs_prepared _ _ c.check_inputs.ensures c.in_ok-check_inputs.was) in
    record { holds_table = w.0; holds_formula = w.1 }

pub returns : goal.returns
unfolding verdict_replied
returns c =
    let a = c.args in
    let b = inputs_prepared a.table.now a.formula.now c.check_inputs.ensures c.in_ok-check_inputs.was in
    let told = sym (c.holds_at_start.ensures.answered b.formula_in b.prepared) in
    let w = promised a.table.now a.formula.now (Ok c.holds_at_start.result)
    (sym (goes_on a.table.now a.formula.now answer b b.formula_in b.prepared ∙ ap (λ h. accepted (cond h 1 0)) told)) in
    record { result_value = w.0; verdict_answered = w.1 }
