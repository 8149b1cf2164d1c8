-- What `verdicts` promises, test by test: 14 for each buffer, then what the inputs' check refuses, then the list.
use mathlib.Core.Path.{◌≡◌, sym, ap, ◌∙◌, subst}
use mathlib.Core.List.{List}
use Prim.Native.Nat.{ℕ, ◌≤◌, ◌<◌}
use lib.ListN.{length}
use borrow.Author.Tests.{le-leb, lt-leb}
use Rattle.std.proofs.Common.{Bool, Result, Err}
use Rattle.lts.specs.Sizes.{most_states, table_length}
use Rattle.lts.specs.Reply.{refusal, left_in, answers}
use Rattle.actl.specs.Sizes.{formula_length}
use Rattle.formula_check.specs.Inputs.{unprepared, inputs_reply}
use Rattle.formula_check.specs.declared.inputs.Unprepared.{Unprepared}
use Rattle.formula_check.proofs.Laws.Inputs.{Both, checked, goes_on, inputs_refused}
use Rattle.starts.specs.VerdictsAsked.{joint, verdicts_asked, verdicts_replied, verdicts_left, VerdictsAnswered}
use Rattle.starts.proofs.Answers.{verdicts_in, with_room, verdicts_answered}
use Rattle.verdicts.specs.Replies.{verdicts_reply}
use Rattle.verdicts.specs.declared.VerdictsRefusal.{VerdictsRefusal}
use Rattle.verdicts.specs.declared.VerdictsRefusal.TheVariants as refusals
use Rattle.verdicts.specs.inner.Answered.{ListAnswered}

module _ (table formula starts buffer : List ℕ) where
  abbrev Promised : List ℕ → Result Bool VerdictsRefusal → Type 0
  Promised buffer' r =
      (verdicts_reply r ≡ verdicts_replied table formula starts buffer)
      × ((buffer' ≡ verdicts_left table formula starts buffer) × VerdictsAnswered table formula starts (verdicts_reply r) buffer')

  -- What the answer means follows from what it is.
  promised : (buffer' : List ℕ) (r : Result Bool VerdictsRefusal) → verdicts_reply r ≡ verdicts_replied table formula starts buffer
      → buffer' ≡ verdicts_left table formula starts buffer → Promised buffer' r
  promised buffer' r d e = (
    d,
    (
      e,
      subst (λ q. VerdictsAnswered table formula starts q buffer') (sym d)
          (subst (VerdictsAnswered table formula starts (verdicts_replied table formula starts buffer)) (sym e) (verdicts_answered table formula starts buffer)),
    ),
  )

  pub refused : (why : Unprepared) → unprepared why ≡ verdicts_asked table formula starts buffer → Promised buffer (Err (refusals.Unprepared why))
  refused why d = promised buffer (Err (refusals.Unprepared why)) (ap (answers joint) d) (ap (λ r. left_in (λ vs. vs) r buffer) d)

  pub short-table : length table < table_length → refusal 14 table_length ≡ verdicts_asked table formula starts buffer
  unfolding verdicts_asked
  short-table h = sym (rw (lt-leb table_length (length table) h))

  module _ (long : table_length ≤ length table) where
    pub short-formula : length formula < formula_length → refusal 14 formula_length ≡ verdicts_asked table formula starts buffer
    unfolding verdicts_asked
    short-formula h = sym (rw (le-leb table_length (length table) long, lt-leb formula_length (length formula) h))

    pub short-answers : formula_length ≤ length formula → length buffer < most_states → refusal 14 most_states ≡ verdicts_asked table formula starts buffer
    unfolding verdicts_asked
    short-answers enough h =
        sym (rw (le-leb table_length (length table) long, le-leb formula_length (length formula) enough, lt-leb most_states (length buffer) h))

  module _ (room : most_states ≤ length buffer) where
    pub foreign : {i : Result (Unit {0}) Unprepared} {why : Unprepared} → inputs_reply i ≡ checked table formula → i ≡ Err why
        → unprepared why ≡ verdicts_asked table formula starts buffer
    foreign outcome e = inputs_refused table formula outcome (verdicts_in starts) e ∙ sym (with_room table formula starts buffer room)

    pub answered : (buffer' : List ℕ) (r : Result Bool VerdictsRefusal) → Both table formula → ListAnswered table formula starts buffer buffer' r → Promised buffer' r
    answered buffer' r b l =
        let F = b.formula_in in
        let is = sym (with_room table formula starts buffer room ∙ goes_on table formula (verdicts_in starts) b F b.prepared) in
        promised buffer' r (l.replies F b.prepared ∙ ap (answers joint) is) (l.leaves F b.prepared ∙ ap (λ q. left_in (λ vs. vs) q buffer) is)
