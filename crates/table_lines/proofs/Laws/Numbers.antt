-- Three numbers in a row are those of a transition, whose line ends behind them or is none.
use mathlib.Core.Path.{◌≡◌}
use mathlib.Core.List.{List}
use Prim.Native.Nat.{ℕ, ◌+◌}
use Rattle.lts.proofs.Laws.Layout.{transition_lies, no_transition}
use Rattle.columns.specs.inner.Read.{column_at}
use Rattle.std.specs.Prelude.{Some}
use Rattle.columns.proofs.Laws.ColumnsRead.{column-found}
use Rattle.table_lines.specs.inner.LineReplies.{NumbersAt}

pub numbers-read : (s : List ℕ) (at x y z : ℕ) → column_at s at ≡ Some x → column_at s (at + 6) ≡ Some y → column_at s (at + 12) ≡ Some z
    → NumbersAt s at (record { from = x; label = y; to = z })
numbers-read s at x y z p q r = record {
  ended = transition_lies s at (record { from = x; label = y; to = z }) (column-found s at x p) (column-found s (at + 6) y q) (column-found s (at + 12) z r);
  unended = λ n. no_transition s at (λ a b c d e f g. n g);
}
