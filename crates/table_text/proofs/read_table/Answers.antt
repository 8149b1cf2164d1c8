-- `read_table` answers `table_replied` and leaves `table_left`.
use Prim.Native.Nat.{ℕ}
use mathlib.Core.Path.{◌≡◌, refl, sym, ◌∙◌}
use mathlib.Core.Bool.{true}
use mathlib.Core.List.{List}
use Rattle.table_text.proofs.Laws.Tables.{header_refused, header_out_of_range, header-accepted, HeaderBounds, header_bounds}
use Rattle.table_text.proofs.Laws.Tables.{short-replies, refused-replies, written-replies}
use Rattle.lts.specs.Reading.{Header, header_in_range}
use Rattle.table_lines.specs.inner.LineReplies.{header, HeaderAnswer}
use Rattle.std.specs.Prelude.{Some}
use Rattle.std.proofs.lemmas.Result.{err_from_is_err_and}
use Rattle.table_text.proofs.Laws.Readings.{refuses_whole}
use Rattle.table_text.proofs.read_table.Goals as goal

pub returns-then-table-lt-TABLE_LENGTH : goal.returns-then-table-lt-TABLE_LENGTH
returns-then-table-lt-TABLE_LENGTH c =
    let a = c.args in let w = short-replies a.text.now a.table.now c.if-table-lt-TABLE_LENGTH.true in
    record { result_value = w.0; table_after = w.1 }

pub returns-in_default : goal.returns-in_default
returns-in_default c =
    let text : List ℕ = c.args.text.now in
    let lent : List ℕ = c.args.table.now in
    let w = refused-replies (text) (lent) c.if-table-lt-TABLE_LENGTH.false
    (header_refused (text) c.in_default.ensures) in
    record { result_value = w.0; table_after = w.1 }

pub returns-then-not-header_in_range : goal.returns-then-not-header_in_range
returns-then-not-header_in_range c =
    let text : List ℕ = c.args.text.now in
    let lent : List ℕ = c.args.table.now in
    let fields : Header = header c.in-Some.counts in
    let said : HeaderAnswer (text) (Some c.in-Some.counts) = c.in-Some.ensures in
    let (l, lies, values) = said in let w = refused-replies (text) (lent) c.if-table-lt-TABLE_LENGTH.false
    (header_out_of_range (text) l lies (fields) values (sym c.header_in_range.ensures ∙ c.if-not-header_in_range.true)) in
    record { result_value = w.0; table_after = w.1 }

pub read_lines-requires : goal.read_lines-requires
read_lines-requires c =
    let text : List ℕ = c.args.text.now in
    let fields : Header = header c.in-Some.counts in
    let said : HeaderAnswer (text) (Some c.in-Some.counts) = c.in-Some.ensures in
    let in-range : header_in_range (fields) ≡ true = sym c.header_in_range.ensures ∙ c.if-not-header_in_range.false in
    let bounds : HeaderBounds (fields) = header_bounds (fields) in-range in
    let (l, lies, values) = said in
    let fits = bounds in record { in_bounds = (lies.within, (refl, refl)); states_le_most_states = (fits.states, (fits.labels, fits.transitions)) }

pub write_table-requires : goal.write_table-requires
write_table-requires c =
    let fields : Header = header c.in-Some.counts in
    let in-range : header_in_range (fields) ≡ true = sym c.header_in_range.ensures ∙ c.if-not-header_in_range.false in
    let bounds : HeaderBounds (fields) = header_bounds (fields) in-range in
    let fits = bounds in
    let kept = c.read_lines.auto in record
    { table_length_in_bounds = (c.if-table-lt-TABLE_LENGTH.false, (kept.names, kept.slots)); states_le_most_states = (fits.states, (fits.labels, (fits.transitions, fits.start))) }

pub returns-in_err-read_lines : goal.returns-in_err-read_lines
returns-in_err-read_lines c =
    let text : List ℕ = c.args.text.now in
    let lent : List ℕ = c.args.table.now in
    let fields : Header = header c.in-Some.counts in
    let in-range : header_in_range (fields) ≡ true = sym c.header_in_range.ensures ∙ c.if-not-header_in_range.false in
    let said : HeaderAnswer (text) (Some c.in-Some.counts) = c.in-Some.ensures in
    let (l, lies, values) = said in
    let opened = header-accepted (text) l lies (fields) values in-range in
    let p = err_from_is_err_and c.from_residual.result c.from_residual.ensures.1 in
    let w = refused-replies (text) (lent) c.if-table-lt-TABLE_LENGTH.false (refuses_whole opened c.in_err-read_lines.ensures) in
    record { result_value = rw (p.1, p.2) w.0; table_after = w.1 }

pub returns : goal.returns
returns c =
    let text : List ℕ = c.args.text.now in
    let lent : List ℕ = c.args.table.now in
    let fields : Header = header c.in-Some.counts in
    let in-range : header_in_range (fields) ≡ true = sym c.header_in_range.ensures ∙ c.if-not-header_in_range.false in
    let said : HeaderAnswer (text) (Some c.in-Some.counts) = c.in-Some.ensures in
    let (l, lies, values) = said in
    let opened = header-accepted (text) l lies (fields) values in-range in
    let w = written-replies (text) (lent) c.if-table-lt-TABLE_LENGTH.false (fields) _ _ c.in_ok-read_lines.ensures opened _ c.write_table.ensures in
    record { result_value = w.0; table_after = w.1 }
