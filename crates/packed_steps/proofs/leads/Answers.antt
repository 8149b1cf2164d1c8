-- `packing::leads` meets its contract.
use borrow.Author.Rules.{rules}
use mathlib.Core.Path.{sym, ◌∙◌}
use mathlib.Core.Bool.{true≢false}
use Rattle.packed_steps.proofs.leads.Goals as goal

pub returns-then-before : goal.returns-then-before
returns-then-before c =
    λ e. absurd (true≢false (sym c.if-before.true ∙ e))
