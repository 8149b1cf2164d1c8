-- `is_prepared` meets its contract: each test fails only where there is no prepared formula, and all passed there is one.
use mathlib.Core.Path.{◌≡◌, sym, ap, ◌∙◌, subst}
use mathlib.Core.Bool.{Bool}
use mathlib.Core.List.{List}
use Prim.Native.Nat.{ℕ, ◌+◌, ◌*◌, ◌≤◌, ◌<◌}
use native.Mathlib.Omega.{arith}
use borrow.Author.Tests.{not-true, not-false}
use Rattle.actl.specs.Sizes.{node_slot_length}
use Rattle.lts.specs.inner.Answers.{Decides}
use Rattle.lts.specs.Sizes.{most_labels}
use Rattle.actl.specs.Prepared.{FormOfSome}
use Rattle.actl.specs.inner.Check.{is_prepared, slots_fit, zeros_from, SpelledClassed}
use Rattle.actl.proofs.Laws.Prepared.{form_tested}
use Rattle.formula_classes.proofs.Laws.Decided.{short-bytes, many-nodes, slots_foreign, not_zeros, decided}
use mathlib.Core.Bool.{not}
use Rattle.formula_slots.proofs.is_prepared.Goals as goal

-- The answer is the test's, and so it tells whether the bytes are some formula's form.
tested : (n : ℕ) (b : List ℕ) {r : Bool} → r ≡ is_prepared n b → (r ≡ is_prepared n b) × (n ≤ most_labels → Decides (FormOfSome n b) r)
tested n b e = (e, λ few. subst (Decides (FormOfSome n b)) (sym e) (form_tested n few b))

pub returns-then-formula-lt-FORMULA_LENGTH : goal.returns-then-formula-lt-FORMULA_LENGTH
returns-then-formula-lt-FORMULA_LENGTH c =
    let n = c.args.labels in
    let b = c.args.formula.now in let w = tested n b (short-bytes n b c.if-formula-lt-FORMULA_LENGTH.true) in
    record { value = w.0; decides = w.1 }

pub returns-then-count-gt-NODES : goal.returns-then-count-gt-NODES
returns-then-count-gt-NODES c =
    let n = c.args.labels in
    let b = c.args.formula.now in let w = tested n b (many-nodes n b (subst (λ k. 40 < k) c.node_count-count.ensures c.if-count-gt-NODES.true)) in
    record { value = w.0; decides = w.1 }

pub returns-then-not-slots_fit : goal.returns-then-not-slots_fit
returns-then-not-slots_fit c =
    let n = c.args.labels in
    let b = c.args.formula.now in
    let fails = sym c.slots_fit.ensures ∙ not-true c.slots_fit.result (ap not c.if-not-slots_fit.true) in
    let w = tested n b (slots_foreign n b (sym (ap (slots_fit n b) c.node_count-count.ensures) ∙ fails)) in
    record { value = w.0; decides = w.1 }

pub returns-then-not-zeros_from : goal.returns-then-not-zeros_from
returns-then-not-zeros_from c =
    let n = c.args.labels in
    let b = c.args.formula.now in
    let fails = sym c.zeros_from.ensures ∙ not-true c.zeros_from.result (ap not c.if-not-zeros_from.true) in
    let w = tested n b (not_zeros n b (sym (ap (λ k. zeros_from b (1 + k * node_slot_length)) c.node_count-count.ensures) ∙ fails)) in
    record { value = w.0; decides = w.1 }

pub returns : goal.returns
returns c =
    let n = c.args.labels in
    let b = c.args.formula.now in
    let count = c.node_count-count.ensures in
    let few = c.if-count-gt-NODES.false in
    let slots = sym c.slots_fit.ensures ∙ not-false c.slots_fit.result (ap not c.if-not-slots_fit.false) in
    let rest = sym c.zeros_from.ensures ∙ not-false c.zeros_from.result (ap not c.if-not-zeros_from.false) in
    let w = tested n b (decided n b c.if-formula-lt-FORMULA_LENGTH.false (λ i. (c.type_inv.formula i).fits) (omega arith)
    (sym (ap (slots_fit n b) count) ∙ slots)
    (sym (ap (λ k. zeros_from b (1 + k * node_slot_length)) count) ∙ rest)
    c.spelled.result
    (subst (λ k. Decides (SpelledClassed b k) c.spelled.result) count c.spelled.ensures)) in
    record { value = w.0; decides = w.1 }
