-- `explain_into` meets its contract: a refusal of reading leaves what is lent; else what `finish` answers and leaves of what was read.
use borrow.Author.Rules.{rules}
use Rattle.std.proofs.lemmas.Result.{err_from_is_err_and}
use Rattle.explaining.proofs.Into.{WasRead, was_read, reading-refused, listing-outcome}
use Rattle.explaining.proofs.explain_into.Goals as goal

pub returns-in_err-read_both : goal.returns-in_err-read_both
returns-in_err-read_both c =
    let a = c.args in
    let p = err_from_is_err_and c.from_residual.result c.from_residual.ensures.1 in
    rw (p.1, p.2) (reading-refused a.tabletext.now a.formulatext.now c.read_both.new.table c.read_both.new.formula c.read_both.ensures.both
    a.rows.now a.edges.now c.in_err-read_both.was)

pub finish-requires : goal.finish-requires
finish-requires c =
    let w : WasRead c.args.tabletext.now c.args.formulatext.now c.read_both.new.table c.read_both.new.formula =
    was_read _ _ _ _ c.read_both.ensures.both c.in_ok-read_both.was in
    record { t_len = search rules; table_length_in_bounds = search rules; holds_both = (w.both, w.held) }

pub returns : goal.returns
returns c =
    let w : WasRead c.args.tabletext.now c.args.formulatext.now c.read_both.new.table c.read_both.new.formula =
    was_read _ _ _ _ c.read_both.ensures.both c.in_ok-read_both.was in
    listing-outcome c.args.rows.now c.args.edges.now w (c.finish.ensures w.both w.held)
