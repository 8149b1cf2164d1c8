-- Both texts read: what `read_both` answers and leaves.
use Rattle.std.specs.Prelude.{◌≡◌, List, ℕ, Result, Ok, Err}
use Rattle.lts.specs.Reply.{Reply, accepted, refusal}
use Rattle.lts.specs.Prepared.{table_bytes}
use Rattle.actl.specs.Prepared.{formula_bytes}
use Rattle.replies.specs.declared.Answer.{Answer}
use Rattle.explanations.specs.inner.BothTexts.{Read}

-- Prepared: the prepared bytes of what was read; refused: the number and the figure.
abbrev pub ReadBoth : Reply Read → Result (Unit {0}) Answer → List ℕ → List ℕ → Type 0
ReadBoth (accepted x) (Ok u) table formula = (table ≡ table_bytes x.table) × (formula ≡ formula_bytes x.formula)
ReadBoth (accepted x) (Err a) table formula = ⊥
ReadBoth (refusal n g) (Ok u) table formula = ⊥
ReadBoth (refusal n g) (Err a) table formula = (a.number ≡ n) × (a.figure ≡ g)
