-- `header_line` says what header a text starts with, or that none does.
use mathlib.Core.Path.{◌≡◌, sym}
use borrow.Author.Tests.{eqb-true, eqb-false}
use lib.ListN.{get_or}
use native.Mathlib.Omega.{arith}
use Rattle.lts.proofs.Laws.Layout.{header-lies, no_header}
use Rattle.lts.proofs.Laws.LinesRead.{byte-within}
use Rattle.table_lines.proofs.Laws.Pairs.{pair_found, pair_lacking}
use Rattle.table_lines.proofs.header_line.Goals as goal

pub returns-then-not-stands : goal.returns-then-not-stands
returns-then-not-stands c =
    no_header c.args.text.now (λ x y z w p q r t e. eqb-false _ _ (sym c.if-not-stands.ensures) e)

pub returns-in_err-states : goal.returns-in_err-states
returns-in_err-states c =
    let s = c.args.text.now in
    rw c.from_residual.ensures (no_header s (λ x y z w p q r t e. pair_lacking s 0 x y (sym c.in_err-states.ensures) p q))

pub read_pair-requires-2 : goal.read_pair-requires-2
read_pair-requires-2 c =
    let s = c.args.text.now in
    omega (arith, byte-within s 24 10 (omega arith) (eqb-true _ _ (sym c.if-not-stands.ensures)))

pub returns-in_err-transitions : goal.returns-in_err-transitions
returns-in_err-transitions c =
    let s = c.args.text.now in
    rw c.from_residual-in_err-transitions.ensures
    (no_header s (λ x y z w p q r t e. pair_lacking s 12 z w (sym c.in_err-transitions.ensures) r t))

pub returns : goal.returns
returns c =
    let s = c.args.text.now in
    let ended : get_or s 24 256 ≡ 10 = eqb-true _ _ (sym c.if-not-stands.ensures) in
    let first = pair_found s 0 c.in_ok-states.states c.in_ok-states.labels (sym c.in_ok-states.ensures) in
    let last = pair_found s 12 c.in_ok-transitions.transitions c.in_ok-transitions.start (sym c.in_ok-transitions.ensures) in
    header-lies s (record { states = c.in_ok-states.states; labels = c.in_ok-states.labels; transitions = c.in_ok-transitions.transitions; start = c.in_ok-transitions.start })
    first.0 first.1 last.0 last.1 ended
