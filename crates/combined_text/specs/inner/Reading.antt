-- What reading one file answers and leaves.
use Rattle.std.specs.Prelude.{◌≡◌, List, ℕ, Result, Ok, Err}
use Rattle.std.proofs.Math.Option.{some}
use Rattle.explanations.specs.inner.Printed.{TextWritten}
use Rattle.lts.specs.Reading.{read_table}
use Rattle.lts.specs.Reply.{accepted, refusal}
use Rattle.lts.specs.Steps.{Table}
use Rattle.lts.specs.TableText.{table_text}
use Rattle.lts.specs.inner.Prepared.{prepared_table}
use Rattle.replies.specs.declared.Answer.{Answer}
use Rattle.side_by_side.specs.Combining.{combining}
use Rattle.combined_text.specs.CombinedText.{unless_refused}

-- The table of a file, prepared.
pub record FileHeld (file table : List ℕ) : Type 0 where
  pub t : Table
  pub read : read_table file ≡ accepted t
  pub held : prepared_table table ≡ some t

abbrev pub FileRead : List ℕ → List ℕ → Result ℕ Answer → Type 0
FileRead file table (Ok figure) = FileHeld file table
FileRead file table (Err a) = read_table file ≡ refusal a.number a.figure

-- The tables that prepared bytes hold.
pub record BothHeld (one two : List ℕ) : Type 0 where
  pub f : Table
  pub s : Table
  pub first_held : prepared_table one ≡ some f
  pub second_held : prepared_table two ≡ some s

-- What is written of two tables, for a buffer that held `before`.
abbrev pub BothWritten : List ℕ → List ℕ → List ℕ → List ℕ → ℕ → Type 0
BothWritten one two before out n = (h : BothHeld one two) → TextWritten (unless_refused 0 (combining h.f h.s) table_text) before out n
