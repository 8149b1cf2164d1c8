-- `accepts` meets its contract: a refusal of the inputs, then 13, and else whether the word is accepted.
use mathlib.Core.Path.{◌≡◌, sym, ◌∙◌, subst}
use mathlib.Core.Bool.{Bool}
use mathlib.Core.List.{List}
use Prim.Native.Nat.{ℕ}
use Rattle.std.specs.Prelude.{Result, Err}
use Rattle.std.proofs.lemmas.Result.{err_from_is_err_and}
use Rattle.lts.specs.Reply.{Reply}
use Rattle.lts.specs.Steps.{Table}
use Rattle.actl.specs.Formulas.{Formula}
use Rattle.formula_check.proofs.Laws.Inputs.{goes_on, inputs_refused, inputs_prepared, both-held}
use Rattle.automaton.specs.WordAsked.{word_replied, WordAnswered}
use Rattle.automaton.proofs.WordsAccepted.{word_answered}
use Rattle.words.specs.inner.Answered.{word_answer}
use Rattle.words.specs.Replies.{word_reply}
use Rattle.words.specs.declared.WordRefusal.{WordRefusal}
use Rattle.words.specs.declared.WordRefusal.TheVariants.{Unprepared}
use Rattle.words.proofs.accepts.Goals as goal

abbrev answered : List ℕ → Table → Formula → Reply ℕ
answered w t F = word_answer t F w

-- What the answer means follows from what it is.
abbrev Promised : List ℕ → List ℕ → List ℕ → Result Bool WordRefusal → Type 0
Promised table formula word r = (word_reply r ≡ word_replied table formula word) × WordAnswered table formula word (word_reply r)

promised : (table formula word : List ℕ) (r : Result Bool WordRefusal) → word_reply r ≡ word_replied table formula word → Promised table formula word r
promised table formula word r e = (e, subst (WordAnswered table formula word) (sym e) (word_answered table formula word))

pub returns-in_err-check_inputs : goal.returns-in_err-check_inputs
unfolding word_replied
returns-in_err-check_inputs c =
    let a = c.args in
    let e = err_from_is_err_and c.from_residual.result c.from_residual.ensures.1 in
    let w = promised a.table.now a.formula.now a.word.now (Err (Unprepared c.in_err-check_inputs.field-0.0))
    (inputs_refused a.table.now a.formula.now c.check_inputs.ensures (answered a.word.now) c.in_err-check_inputs.was) in
    rw (e.1, e.2) (record { result_value = w.0; word_answered = w.1 })

pub answer-requires : goal.answer-requires
answer-requires c =
    let w = both-held _ _ (inputs_prepared _ _ c.check_inputs.ensures c.in_ok-check_inputs.was) in
    record { holds_table = w.0; holds_formula = w.1 }

pub returns : goal.returns
unfolding word_replied
returns c =
    let a = c.args in
    let b = inputs_prepared a.table.now a.formula.now c.check_inputs.ensures c.in_ok-check_inputs.was in
    let w = promised a.table.now a.formula.now a.word.now c.answer.result
    (c.answer.ensures.reply b.formula_in b.prepared ∙ sym (goes_on a.table.now a.formula.now (answered a.word.now) b b.formula_in b.prepared)) in
    record { result_value = w.0; word_answered = w.1 }
