-- The executable twin of `line_text` (../LineText.antt): `line-right` (proofs/Right.antt) makes `file_line` equal to it, for what is
-- read of two files of any length.
use Rattle.std.specs.Prelude.{List, ℕ}
use Rattle.lts.specs.Reply.{Reply}
use Rattle.explanations.specs.inner.Printed.{with_length}
use Rattle.files.specs.declared.Scanned.{Scanned}
use Rattle.files.specs.inner.Files.{length_without_end, kept_text}
use Rattle.formula_line.specs.LineText.{written_back, line_of}

-- The line about a formula of `n` bytes.
abbrev pub counted_line : ℕ → Reply (List ℕ) → List ℕ
counted_line n r = line_of (with_length n r)

-- What is written: of what was read, a too long formula refused with the length that was counted.
unfoldable pub file_line : List ℕ → List ℕ → Scanned → List ℕ
file_line tableFile head scanned = counted_line (length_without_end scanned) (written_back tableFile (kept_text head scanned))
