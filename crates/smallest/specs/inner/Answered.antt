-- What is answered and left, over what a definition says; the work buffer keeps what is past its length.
use Rattle.std.specs.Prelude.{◌≡◌, List, ℕ, length, drop, Result}
use Rattle.lts.specs.Reply.{Reply, left_in, answers}
use Rattle.actl.specs.FormulaReading.{on_prepared}
use Rattle.automaton.specs.declared.Totals.{Totals}
use Rattle.deterministic.specs.Sizes.{work_length}
use Rattle.deterministic.specs.SmallestAsked.{Beside, beside_in, counts_beside, rows_beside, edges_beside, smallest_bytes}
use Rattle.smallest.specs.Replies.{smallest_reply}
use Rattle.smallest.specs.declared.SmallestRefusal.{SmallestRefusal}

pub record WorkKept (before after : List ℕ) : Type 0 where
  pub long : length after ≡ length before
  pub past : drop work_length after ≡ drop work_length before

-- Laid out beside each other in lent places, as f says.
pub record LaidBeside (f : Reply Beside) (rows edges out : List ℕ) (r : Result Totals SmallestRefusal) (rowsAfter edges_after outAfter : List ℕ) : Type 0 where
  pub reply : smallest_reply r ≡ answers counts_beside f
  pub rows_left : rowsAfter ≡ left_in rows_beside f rows
  pub edges_left_lem : edges_after ≡ left_in edges_beside f edges
  pub out_left : outAfter ≡ left_in smallest_bytes f out

pub record Answered (table formula rows edges out work : List ℕ) (r : Result Totals SmallestRefusal) (rowsAfter edges_after outAfter workAfter : List ℕ) : Type 0 where
  pub laid : LaidBeside (on_prepared table formula (beside_in rows edges)) rows edges out r rowsAfter edges_after outAfter
  pub kept : WorkKept work workAfter
