-- `answer_list` meets its contract: 16, and else the verdict at each entry.
use mathlib.Core.Path.{◌≡◌, sym, ap, ◌∙◌}
use mathlib.Core.List.{List}
use mathlib.Core.Option.{Option}
use Prim.Native.Nat.{ℕ}
use Rattle.lts.specs.Reply.{accepted, left_in, answers}
use Rattle.lts.specs.Steps.{Table}
use Rattle.lts.specs.inner.Prepared.{table_in}
use Rattle.tables.specs.inner.Access.{found_in}
use Rattle.actl.specs.Formulas.{Formula}
use Rattle.actl.specs.Reading.{unless_found}
use Rattle.starts.specs.Starts.{wrong_start}
use Rattle.starts.specs.VerdictsAsked.{verdicts_at, joint}
use Rattle.verdicts.specs.inner.Answered.{list_reply}
use Rattle.verdicts.proofs.answer_list.Goals as goal

known : (t : Table) (starts : List ℕ) {n : ℕ} {w o : Option ℕ} → w ≡ wrong_start n starts → n ≡ t.states → w ≡ o → wrong_start t.states starts ≡ o
known t starts e d z = sym (e ∙ ap (λ n. wrong_start n starts) d) ∙ z

replied : (table starts : List ℕ) (F : Formula) {o : Option ℕ} → wrong_start (table_in table).states starts ≡ o
    → list_reply table starts F ≡ unless_found o 16 (accepted (verdicts_at (table_in table) F starts))
replied table starts F e = ap (λ o. unless_found o 16 (accepted (verdicts_at (table_in table) F starts))) e

pub returns-in-Some : goal.returns-in-Some
returns-in-Some c =
    let a = c.args in
    let wrong = known (table_in a.table.now) a.starts.now c.wrong_start-wrong.ensures c.state_count.ensures.count (ap found_in c.in-Some.is) in
    record {
      replies = λ F e. sym (ap (answers joint) (replied a.table.now a.starts.now F wrong));
      leaves = λ F e. sym (ap (λ r. left_in (λ vs. vs) r a.answers.now) (replied a.table.now a.starts.now F wrong));
    }

pub answer_each-requires : goal.answer_each-requires
answer_each-requires c =
    let a = c.args in
    let right = known (table_in a.table.now) a.starts.now c.wrong_start-wrong.ensures c.state_count.ensures.count (ap found_in c.in_default.is) in
    record { holds_table = c.requires.holds_table.0; holds_formula = c.requires.holds_formula; starts_value = (right, c.requires.holds_table.1) }

pub returns : goal.returns
returns c =
    let a = c.args in
    let right = known (table_in a.table.now) a.starts.now c.wrong_start-wrong.ensures c.state_count.ensures.count (ap found_in c.in_default.is) in
    record {
      replies = λ F d. ap accepted (c.answer_each.ensures.jointly F d) ∙ sym (ap (answers joint) (replied a.table.now a.starts.now F right));
      leaves = λ F d. c.answer_each.ensures.left F d ∙ sym (ap (λ r. left_in (λ vs. vs) r a.answers.now) (replied a.table.now a.starts.now F right));
    }
