-- The readers of sets: operands and sets call each other, and the unread bytes fall.
use mathlib.Core.Path.{◌≡◌}
use mathlib.Core.Logic.{inl}
use Rattle.std.specs.Prelude.{Err}
use native.Mathlib.Omega.{arith}
use Rattle.actl.specs.inner.Cursor.{Tokened}
use Rattle.actl.specs.inner.Readers.{names_in}
use Rattle.formula_sets.specs.inner.OperandPhases.{SignsRead}
use Rattle.std.proofs.lemmas.Result.{err_from_is_err_and}
use Rattle.formula_sets.proofs.ReaderCycles.{unread, unread_stays, token-falls, start-behind}
use Rattle.formula_sets.proofs.ReadingSets.{group-says, operand-within, pending_first, set_fails, set-read, pending_more}
use Rattle.formula_sets.proofs.+operand_set_unsigned.Goals as goal

-- The operand behind the signs.
pub operand-unsigned-requires : goal.operand-unsigned-requires
operand-unsigned-requires t c =
    let s = c.args.source.now.text.now in
    let pre = c.requires in
    let h : SignsRead s c.args.c.at c.past_signs-s.result.end.at c.past_signs-s.result.odd = c.past_signs-s.ensures in (
      unread_stays s c.args.c.at c.past_signs-s.result.end.at 3 1 0 t h.passed.up c.decreases (omega arith),
      (record { table = pre.table; short = pre.short; token = h.passed.token }, h.no_not),
    )

pub operand-complement-requires : goal.operand-complement-requires
operand-complement-requires t c = (c.requires.table, operand-within c.in_ok-x.ensures)

-- Each turn of a set's loop reads an operand, and the mark behind it.
pub set-loop-x-init : goal.set-loop-x-init
set-loop-x-init t c =
    let N = names_in c.args.source.now.table.now in
    let s = c.args.source.now.text.now in
    pending_first N s c.args.c.at c.args.lost c.requires.token

pub set-operand-requires : goal.set-operand-requires
set-operand-requires t c =
    let s = c.args.source.now.text.now in
    let pre = c.requires in
    let j = c.loop-x.invariant in
    let measured : unread 3 2 s c.args.c.at ≡ t = c.decreases in
    (unread_stays s c.args.c.at c.loop-x.d.at 3 2 1 t j.moves.up measured (omega arith), record { table = pre.table; short = pre.short; token = j.token })

-- The operand of this turn was refused.
pub set-returns-in_err-x : goal.set-returns-in_err-x
set-returns-in_err-x t c =
    let e = err_from_is_err_and c.from_residual.result c.from_residual.ensures.1 in
    rw (e.1, e.2) (set_fails c.loop-x.invariant c.in_err-x.ensures)

-- It was read.
pub set-returns-in_default : goal.set-returns-in_default
set-returns-in_default t c = set-read c.loop-x.invariant c.in_ok-x.ensures c.skip_blanks-end.ensures c.in_default.ensures

-- And `|` behind it.
pub set-loop-x-smaller : goal.set-loop-x-smaller
set-loop-x-smaller t c = let k = c.in-Some.ensures.skipped in omega (arith, c.in_ok-x.ensures.up, c.skip_blanks-end.ensures.up, k.up, k.within)

pub set-loop-x-preserved : goal.set-loop-x-preserved
set-loop-x-preserved t c = pending_more c.loop-x.invariant c.in_ok-x.ensures c.skip_blanks-end.ensures c.in-Some.ensures

-- A set in round brackets.
pub unsigned-set-requires : goal.unsigned-set-requires
unsigned-set-requires t c =
    let paren : Tokened c.args.source.now.text.now c.args.c.at 40 c.in-Some.d.at = c.in-Some.ensures in
    (token-falls paren 3 0 2 t c.decreases (omega arith), start-behind paren c.requires.0)

pub unsigned-returns-in_err-set : goal.unsigned-returns-in_err-set
unsigned-returns-in_err-set t c =
    let e = err_from_is_err_and c.from_residual.result c.from_residual.ensures.1 in
    rw (e.1, e.2) (group-says (names_in c.args.source.now.table.now) c.args.lost c.in-Some.ensures (Err c.in_err-set.field-0.0) (inl c.in_err-set.ensures))

pub unsigned-returns-in-Some : goal.unsigned-returns-in-Some
unsigned-returns-in-Some t c =
    let a = c.args in
    let names = names_in a.source.now.table.now in
    group-says names a.lost c.in-Some.ensures c.closed.result (c.closed.ensures names c.in-Some.d.at a.lost c.in_ok-set.ensures)
