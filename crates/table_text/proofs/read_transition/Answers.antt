-- `read_transition` says what one more line of a transition makes of the reading, and keeps it.
use mathlib.Core.Path.{◌≡◌, sym, ap, ◌∙◌}
use mathlib.Core.Bool.{true}
use mathlib.Core.List.{List}
use borrow.Author.Tests.{eqb-true, eqb-false}
use Prim.Native.Nat.{ℕ, ◌+◌, ◌*◌}
use native.Mathlib.Omega.{arith}
use Rattle.lts.specs.Sizes.{transition_length}
use Rattle.table_text.proofs.Laws.Progress.{transition_refused, transition_out_of_range, transition_not-rising, transition_accepted}
use Rattle.lts.proofs.Laws.SlotBytes.{step-written, rises_stored}
use Rattle.columns.specs.inner.Write.{pasted}
use Rattle.table_lines.specs.inner.LineReplies.{NumbersAt, header}
use Rattle.tables.specs.inner.Access.{step_in}
use Rattle.lts.specs.inner.Lines.{LineAt}
use Rattle.lts.specs.Reading.{step_in_range, step_of, step_laid_out}
use Rattle.lts.specs.Prepared.{transition_slot}
use Rattle.tables.specs.declared.prepared.Transition.{Transition}
use Rattle.lts.proofs.Laws.Tests.{step_range_of}
use Rattle.table_text.proofs.read_transition.Goals as goal

pub returns-in_default : goal.returns-in_default
returns-in_default c =
    let a = c.args in
    let s = a.text.now in
    λ left names steps e f g. transition_refused (header a.counts) s a.at left names steps _ (omega arith)
    c.in_default.ensures

pub returns-then-not-stands : goal.returns-then-not-stands
returns-then-not-stands c =
    let text : List ℕ = c.args.text.now in
    let read : Transition = c.in-Some.t in
    let numbers : NumbersAt (text) c.args.at (step_in (read)) = c.in-Some.ensures in
    let a = c.args in
    λ left names steps e f g. transition_refused (header a.counts) a.text.now a.at left names steps _ (omega arith)
    ((numbers).unended (eqb-false _ _ (sym c.if-not-stands.ensures)))

pub returns-then-not-transition_in_range : goal.returns-then-not-transition_in_range
returns-then-not-transition_in_range c =
    let text : List ℕ = c.args.text.now in
    let read : Transition = c.in-Some.t in
    let numbers : NumbersAt (text) c.args.at (step_in (read)) = c.in-Some.ensures in
    let a = c.args in
    let (l, lies, values) = (numbers).ended (eqb-true _ _ (sym c.if-not-stands.ensures)) in
    λ left names steps e f g. transition_out_of_range (header a.counts) a.text.now a.at left names steps (a.at + 19) l lies (step_in (read)) values _ (omega arith)
    (sym c.if-not-transition_in_range.ensures)

pub returns-then-not-rises : goal.returns-then-not-rises
returns-then-not-rises c =
    let text : List ℕ = c.args.text.now in
    let read : Transition = c.in-Some.t in
    let numbers : NumbersAt (text) c.args.at (step_in (read)) = c.in-Some.ensures in
    let in_bounds : step_in_range (header c.args.counts) (step_in (read)) ≡ true = sym c.transition_in_range.ensures ∙ c.if-not-transition_in_range.false in
    let SaidAt : ℕ → Type 0 = λ at. (l : List ℕ) × LineAt step_laid_out (text) at (at + 19) l × (step_of l ≡ step_in (read)) in
    let says : SaidAt c.args.at = (numbers).ended (eqb-true _ _ (sym c.if-not-stands.ensures)) in
    let a = c.args in
    let t = step_in (read) in
    let (l, lies, values) = says in
    λ left names steps e f g. transition_not-rising (header a.counts) a.text.now a.at left names steps (a.at + 19) l lies t values _ (omega arith)
    (in_bounds) (sym (rises_stored a.slots.now a.count steps t f g) ∙ sym c.rises.ensures ∙ c.if-not-rises.true)

pub write_transition-requires : goal.write_transition-requires
write_transition-requires c =
    let read : Transition = c.in-Some.t in
    let in_bounds : step_in_range (header c.args.counts) (step_in (read)) ≡ true = sym c.transition_in_range.ensures ∙ c.if-not-transition_in_range.false in
    let r = step_range_of (header c.args.counts) (step_in (read)) (in_bounds) in
    omega arith

pub returns : goal.returns
returns c =
    let text : List ℕ = c.args.text.now in
    let read : Transition = c.in-Some.t in
    let numbers : NumbersAt (text) c.args.at (step_in (read)) = c.in-Some.ensures in
    let in_bounds : step_in_range (header c.args.counts) (step_in (read)) ≡ true = sym c.transition_in_range.ensures ∙ c.if-not-transition_in_range.false in
    let SaidAt : ℕ → Type 0 = λ at. (l : List ℕ) × LineAt step_laid_out (text) at (at + 19) l × (step_of l ≡ step_in (read)) in
    let says : SaidAt c.args.at = (numbers).ended (eqb-true _ _ (sym c.if-not-stands.ensures)) in
    let a = c.args in
    let t = step_in (read) in
    let (l, lies, values) = says in
    λ left names steps e f g. record {
      last = t;
      within = lies.within;
      reads = transition_accepted (header a.counts) a.text.now a.at left names steps (a.at + 19) l lies t values (in_bounds)
          (sym (rises_stored a.slots.now a.count steps t f g) ∙ sym c.rises.ensures ∙ c.if-not-rises.false);
      kept = c.write_transition.ensures ∙ ap (λ b. pasted b (a.count * transition_length) (transition_slot t)) g
          ∙ step-written steps t a.count f c.requires.at_in_bounds.1.1;
    }
