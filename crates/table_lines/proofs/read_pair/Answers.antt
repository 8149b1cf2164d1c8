-- `read_pair` answers `pair_at`.
use mathlib.Core.Path.{ap, ap₂, ◌∙◌}
use Prim.Native.Nat.{◌+◌}
use Rattle.columns.specs.inner.Read.{column_at}
use Rattle.table_lines.specs.inner.LineReplies.{pair_of, pair_at}
use Rattle.table_lines.proofs.read_pair.Goals as goal

pub returns-in_err-first : goal.returns-in_err-first
unfolding pair_at
returns-in_err-first c =
    let a = c.args in
    c.from_residual.ensures ∙ ap (λ x. pair_of x (column_at a.text.now (a.at + 6))) c.in_err-first.ensures

pub returns-in_err-second : goal.returns-in_err-second
unfolding pair_at
returns-in_err-second c =
    c.from_residual-in_err-second.ensures ∙ ap₂ pair_of c.in_ok-first.ensures c.in_err-second.ensures

pub returns : goal.returns
unfolding pair_at
returns c =
    ap₂ pair_of c.in_ok-first.ensures c.in_ok-second.ensures
