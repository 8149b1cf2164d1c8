-- `write_lines` meets its contract: one line more stands there each turn.
use mathlib.Core.Path.{◌≡◌}
use mathlib.Core.List.{List}
use Prim.Native.Nat.{ℕ, ◌+◌, ◌*◌, ◌≤◌}
use Rattle.explanations.proofs.Printing.{Lines}
use Rattle.listing_text.specs.inner.Lines.{Says}
use Rattle.listing_text.proofs.lines.write_lines.Given as goal

abbrev pub invariant-loop-i : goal.invariant-loop-i
invariant-loop-i g l =
    (l.i ≤ l.count)
    × (l.end ≡ l.at + l.i * (l.width * 6 + 1))
    × ((line : ℕ → List ℕ) → Says (goal.F-post g l.numbers) l.width l.count line → Lines line (l.width * 6 + 1) l.initial.out l.at l.out l.end l.i)
