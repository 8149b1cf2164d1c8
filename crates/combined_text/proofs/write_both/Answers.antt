-- `write_both` meets its contract: the refusal of the combination, or its text.
use borrow.Author.Rules.{rules}
use mathlib.Core.Path.{◌≡◌, sym, subst}
use native.Mathlib.Omega.{arith}
use Rattle.explaining.proofs.Answers.{said_of}
use lib.ListN.{replicate}
use Rattle.explanations.specs.inner.Printed.{TextWritten}
use Rattle.lts.specs.Reply.{Reply, refusal}
use Rattle.lts.specs.Sizes.{table_length}
use Rattle.lts.specs.Steps.{Table}
use Rattle.replies.specs.inner.Says.{Says}
use Rattle.side_by_side.specs.Combining.{combining, combine_replied}
use Rattle.lts.specs.TableText.{table_text}
use Rattle.replies.specs.declared.Answer.{Answer}
use Rattle.combined_text.specs.CombinedText.{refused_line, unless_refused}
use Rattle.combined_text.specs.inner.Reading.{BothHeld}
use Rattle.combined_text.proofs.Both.{CombinedHeld, combining-refused, combining-held, text-left}
use Rattle.combined_text.proofs.write_both.Goals as goal

pub returns-in-Err : goal.returns-in-Err
returns-in-Err c =
    let said : Says (λ (u : Unit {0}). 0) (combine_replied c.args.first.now c.args.second.now (replicate table_length 0))
    c.combine_answer-said.result = said_of c.combine_answer-said.ensures c.combine.ensures.result_value in
    let refused-so : (h : BothHeld c.args.first.now c.args.second.now) → (c.combine_answer-said.result.number ≡ 0 → ⊥) →
    combining h.f h.s ≡ refusal c.combine_answer-said.result.number c.combine_answer-said.result.figure = λ h.
    combining-refused c.args.first.now c.args.second.now h (replicate table_length 0) (omega arith) c.combine_answer-said.result said in
    λ h. subst (λ (r : Reply Table). TextWritten (unless_refused 0 r table_text) c.args.out.now c.write_refused.new.out c.write_refused.result)
    (sym (refused-so h c.in-Err.ensures.0))
    (subst (λ (x : Answer). TextWritten (refused_line 0 x.number x.figure) c.args.out.now c.write_refused.new.out c.write_refused.result) c.in-Err.ensures.1 c.write_refused.ensures)

pub returns : goal.returns
returns c =
    let said : Says (λ (u : Unit {0}). 0) (combine_replied c.args.first.now c.args.second.now (replicate table_length 0))
    c.combine_answer-said.result = said_of c.combine_answer-said.ensures c.combine.ensures.result_value in
    let held : (h : BothHeld c.args.first.now c.args.second.now) → c.combine_answer-said.result.number ≡ 0 →
    CombinedHeld h.f h.s c.combine.new.combined = λ h zero.
    combining-held c.args.first.now c.args.second.now h (replicate table_length 0) (omega arith) c.combine_answer-said.result said zero _ c.combine.ensures.combined_after in
    λ h. let x = held h c.in-Ok.ensures.0 in
    subst (λ (r : Reply Table). TextWritten (unless_refused 0 r table_text) c.args.out.now c.table_text.new.text c.text_answer-written.result.figure) (sym x.is)
    (text-left c.combine.new.combined x.t x.held c.args.out.now c.requires.1 c.text_answer-written.result
    (said_of c.text_answer-written.ensures c.table_text.ensures.result_value) _ c.table_text.ensures.text_after)
