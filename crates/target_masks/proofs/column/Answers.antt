-- `column` meets its contract: a label that is not the idle step's is one of 40.
use mathlib.Core.Path.{sym}
use mathlib.Core.Logic.{inl, inr}
use native.Mathlib.Omega.{arith}
use Rattle.target_masks.proofs.Laws.Places.{idle_column, own-column}
use Rattle.target_masks.proofs.column.Goals as goal

pub returns-then-label-eq-IDLE : goal.returns-then-label-eq-IDLE
returns-then-label-eq-IDLE c =
    (sym (idle_column c.args.label c.if-label-eq-IDLE.true), omega arith)

pub returns-else-label-eq-IDLE : goal.returns-else-label-eq-IDLE
returns-else-label-eq-IDLE c =
    let other = c.if-label-eq-IDLE.false in
    (sym (own-column c.args.label other), elim c.requires [ inl h ↦ omega arith | inr e ↦ absurd (other e) ])
