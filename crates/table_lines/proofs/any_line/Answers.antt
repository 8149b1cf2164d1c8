-- `any_line` says what line of a transition stands at a place, or that none does.
use mathlib.Core.Path.{sym}
use Prim.Native.Nat.{◌+◌}
use Rattle.lts.proofs.Laws.Layout.{no_transition}
use Rattle.columns.proofs.Laws.ColumnsRead.{column-lacking}
use Rattle.table_lines.proofs.Laws.Numbers.{numbers-read}
use Rattle.table_lines.proofs.any_line.Goals as goal

pub returns-in_err-from : goal.returns-in_err-from
returns-in_err-from c =
    let a = c.args in
    let s = a.text.now in
    rw c.from_residual.ensures (no_transition s a.at (λ x y z p q r e. column-lacking s a.at x (sym c.in_err-from.ensures) p))

pub returns-in_err-label : goal.returns-in_err-label
returns-in_err-label c =
    let a = c.args in
    let s = a.text.now in
    rw c.from_residual-in_err-label.ensures (no_transition s a.at (λ x y z p q r e. column-lacking s (a.at + 6) y (sym c.in_err-label.ensures) q))

pub returns-in_err-to : goal.returns-in_err-to
returns-in_err-to c =
    let a = c.args in
    let s = a.text.now in
    rw c.from_residual-in_err-to.ensures (no_transition s a.at (λ x y z p q r e. column-lacking s (a.at + 12) z (sym c.in_err-to.ensures) r))

pub returns : goal.returns
returns c =
    let a = c.args in
    numbers-read a.text.now a.at c.in_ok-from.from c.in_ok-label.label c.in_ok-to.to (sym c.in_ok-from.ensures) (sym c.in_ok-label.ensures)
    (sym c.in_ok-to.ensures)
