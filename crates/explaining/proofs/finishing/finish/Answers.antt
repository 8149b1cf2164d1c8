-- `finish` meets its contract: a refusal of building leaves the prepared bytes where they are; else they are copied.
use mathlib.Core.Path.{refl}
use native.Mathlib.Omega.{arith}
use Rattle.std.proofs.lemmas.Result.{err_from_is_err_and}
use Rattle.explaining.proofs.Ending.{both_hold, refused_said, row-there, explained_said, copied}
use Rattle.explaining.proofs.finishing.finish.Goals as goal

pub built-reply-requires : goal.built-reply-requires
built-reply-requires c =
    let (x, held) = c.requires.holds_both in let w = both_hold c.args.t.now c.args.f.now x held in
    record { holds_table = w.0; holds_formula = w.1 }

pub returns-in_err-row_count : goal.returns-in_err-row_count
returns-in_err-row_count c =
    λ x held.
    let built = c.built-reply in
    let a = c.args in
    let refused = c.in_err-row_count.ensures in
    let p = err_from_is_err_and c.from_residual.result c.from_residual.ensures.1 in
    rw (p.1, p.2) (refused_said a.t.now a.f.now x held a.rows.now a.edges.now _ _ built.result built.ensures c.build_answer.ensures refused.0 refused.1 _ _)

pub bounds-rows-2 : goal.bounds-rows-2
bounds-rows-2 c =
    let built = c.built-reply in
    let a = c.args in
    let (x, held) = c.requires.holds_both in
    let row = row-there a.t.now a.f.now x held a.rows.now a.edges.now _ _ built.result built.ensures c.build_answer.ensures c.in_ok-row_count.ensures.0 in
    omega (arith, row, built.auto.rows)

pub copy-requires-2 : goal.copy-requires-2
copy-requires-2 c =
    omega (arith, c.requires.t_len.1, c.requires.table_length_in_bounds.1)

pub returns : goal.returns
returns c =
    λ x held.
    let built = c.built-reply in
    let a = c.args in
    let count = c.build_edges-count in
    let rows-are = c.in_ok-row_count.ensures in
    explained_said a.t.now a.f.now x held a.rows.now a.edges.now _ _ built.result built.ensures c.build_answer.ensures rows-are.0
    _ _ c.class_of-class.result count.result c.verdict_told-holds.result rows-are.1 refl c.class_of-class.ensures count.ensures c.verdict_told-holds.ensures
    a.table.now _ a.formula.now _
    (copied a.t.now a.table.now _ c.copy.ensures.after) (copied a.f.now a.formula.now _ c.copy-2.ensures.after)
