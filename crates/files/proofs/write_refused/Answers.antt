-- `write_refused` meets its contract: the line of the number and its figure, by the test of the number.
use mathlib.Core.Path.{◌≡◌, sym, subst}
use mathlib.Core.Bool.{Bool, cond}
use mathlib.Core.List.{List}
use Prim.Native.Nat.{ℕ}
use lib.Dec.{eqb}
use borrow.Author.Tests.{eq-eqb, ne_eqb}
use Rattle.files.specs.inner.Writing.{refused_line}
use Rattle.explanations.specs.Printed.{refusal_line}
use Rattle.explanations.specs.inner.Printed.{TextWritten}
use Rattle.files.proofs.write_refused.Goals as goal

by_number : (k g n : ℕ) {b : Bool} {before out : List ℕ} {end : ℕ} → eqb k 5 ≡ b → TextWritten (refusal_line k (cond b n g)) before out end
    → TextWritten (refused_line n k g) before out end
by_number k g n {before} {out} {end} d w = subst (λ (b : Bool). TextWritten (refusal_line k (cond b n g)) before out end) (sym d) w

pub returns-then-number-eq5 : goal.returns-then-number-eq5
returns-then-number-eq5 c =
    let call = c.write_refusal in
    let a = c.args in
    by_number a.number a.figure a.counted (eq-eqb a.number 5 c.if-number-eq5.true) call.ensures

pub returns : goal.returns
returns c =
    let call = c.write_refusal-2 in
    let a = c.args in
    by_number a.number a.figure a.counted (ne_eqb a.number 5 c.if-number-eq5.false) call.ensures
