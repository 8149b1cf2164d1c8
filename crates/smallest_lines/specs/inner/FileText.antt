-- The executable twin of `smallest_text` (../SmallestText.antt): `text-right` (proofs/Right.antt) makes `file_text` equal to it, for what is
-- read of two files of any length.
use Rattle.std.specs.Prelude.{List, ℕ, ◌+◌}
use Rattle.lts.specs.Reply.{Reply}
use Rattle.explanations.specs.inner.Printed.{with_length}
use Rattle.files.specs.declared.Scanned.{Scanned}
use Rattle.files.specs.inner.Files.{length_without_end, kept_text}
use Rattle.deterministic.specs.SmallestAsked.{Beside}
use Rattle.smallest_text.specs.inner.Held.{longest_text}
use Rattle.smallest_lines.specs.SmallestText.{lent_smallest, text_of}

-- The longest text of an automaton, and room for a line of four numbers.
abbrev pub smallest_text_length : ℕ
smallest_text_length = longest_text + 81

-- The text about a formula of `n` bytes.
abbrev pub counted_text : ℕ → Reply Beside → List ℕ
counted_text n r = text_of (with_length n r)

-- What is written: of what was read, a too long formula refused with the length that was counted.
unfoldable pub file_text : List ℕ → List ℕ → Scanned → List ℕ
file_text tableFile head scanned = counted_text (length_without_end scanned) (lent_smallest tableFile (kept_text head scanned))
