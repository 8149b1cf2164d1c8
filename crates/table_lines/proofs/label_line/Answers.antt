-- `label_line` says what line of a label stands at a place, or that none does.
use mathlib.Core.Path.{sym}
use borrow.Author.Tests.{eqb-true, eqb-false}
use Prim.Native.Nat.{◌+◌}
use native.Mathlib.Omega.{arith}
use Rattle.lts.proofs.Laws.LinesRead.{byte-within}
use Rattle.lts.proofs.Laws.LabelLayout.{label-lies, no_label, end-of-name}
use Rattle.columns.proofs.Laws.ColumnsRead.{column-found, column-lacking}
use Rattle.table_lines.proofs.label_line.Goals.{else-end-from-via-then-end-from+else-stands, else-end-from-via-else-end-from}
use Rattle.table_lines.proofs.label_line.Goals as goal

pub returns-in_err-number : goal.returns-in_err-number
returns-in_err-number c =
    let a = c.args in
    rw c.from_residual.ensures (no_label a.text.now a.at (λ x name rest p e f g. column-lacking a.text.now a.at x (sym c.in_err-number.ensures) p))

pub returns-then-not-stands : goal.returns-then-not-stands
returns-then-not-stands c =
    no_label c.args.text.now c.args.at (λ x name rest p e f g. eqb-false _ _ (sym c.if-not-stands.ensures) e)

pub read_name-end-requires : goal.read_name-end-requires
read_name-end-requires c =
    let a = c.args in
    omega (arith, byte-within a.text.now (a.at + 6) 32 (omega arith) (eqb-true _ _ (sym c.if-not-stands.ensures)))

pub returns-then-stands : goal.returns-then-stands
returns-then-stands c =
    let s = c.args.text.now in
    let at = c.args.at in
    let read = c.read_name-end in
    label-lies s at c.in_ok-number.number read.result.end (column-found s at c.in_ok-number.number (sym c.in_ok-number.ensures))
    (eqb-true _ _ (sym c.if-not-stands.ensures)) read.ensures.0 c.if-end-from.true (eqb-true _ _ (sym c.if-stands.ensures))

pub returns-else-end-from : goal.returns-else-end-from
returns-else-end-from c =
    let s = c.args.text.now in
    let at = c.args.at in
    let read = c.read_name-end in
    no_label s at (λ x name rest p e f g.
    let named = end-of-name s at name rest f g read.result.end read.ensures.0 in
    elim c.else-end-from.branch [
      | else-end-from-via-then-end-from+else-stands w ↦ eqb-false _ _ (sym w.if-stands.ensures) named.1
      | else-end-from-via-else-end-from w ↦ named.0 w.if-end-from.false
    ])
