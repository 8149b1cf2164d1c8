-- The executable twin of `verdicts_text` (verdict_text/specs/VerdictsText.antt): `lines-right` (proofs/Right.antt) makes `file_lines` equal to it, for what is
-- read of two files and a list of any length.
use Rattle.std.specs.Prelude.{List, ℕ}
use Rattle.lts.specs.Reply.{Reply}
use Rattle.explanations.specs.inner.Printed.{with_length}
use Rattle.files.specs.declared.Scanned.{Scanned}
use Rattle.files.specs.inner.Files.{length_without_end, kept_text}
use Rattle.verdict_text.specs.VerdictsText.{entries_in, listed_verdicts, lines_of}

-- The lines about a formula of `n` bytes.
abbrev pub counted_lines : ℕ → Reply (List ℕ) → List ℕ
counted_lines n r = lines_of (with_length n r)

-- What is written: of what was read, a too long formula refused with the length that was counted.
unfoldable pub file_lines : List ℕ → List ℕ → Scanned → List ℕ → List ℕ
file_lines tableFile head scanned list = counted_lines (length_without_end scanned) (listed_verdicts tableFile (kept_text head scanned) (entries_in list))
