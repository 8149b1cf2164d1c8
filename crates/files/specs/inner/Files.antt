-- The executable twin of `explain_text` (explanations/specs/Printed.antt): `files_right` (proofs/Right.antt) makes `files_text` equal to it, for what is
-- read of two files of any length.
use Rattle.std.specs.Prelude.{◌≡◌, cond, List, ℕ, ◌-◌, ◌≤◌, min, eqb, take}
use Rattle.explanations.specs.inner.Sizes.{kept_length}
use Rattle.lts.specs.inner.Sizes.{enough_table_text}
use Rattle.explanations.specs.Printed.{lent_explanation, printed}
use Rattle.explanations.specs.inner.Printed.{with_length}
use Rattle.files.specs.declared.Scanned.{Scanned}

-- The beginning of a table file: all of it, or at least 20,322 bytes, which get the same answer as all.
abbrev pub Begins : List ℕ → List ℕ → Type 0
Begins part file = (n : ℕ) × (enough_table_text ≤ n) × (part ≡ take n file)

-- 01: "One LF at the end of `formula.txt` is dropped."
abbrev pub length_without_end : Scanned → ℕ
length_without_end scanned = cond (eqb scanned.last 10) (scanned.length - 1) scanned.length

-- The formula's text, or its first 513 bytes.
abbrev pub kept_text : List ℕ → Scanned → List ℕ
kept_text head scanned = take (min (length_without_end scanned) kept_length) head

-- What is written: the explanation of what was read, a too long formula refused with the length that was counted.
unfoldable pub files_text : List ℕ → List ℕ → Scanned → List ℕ
files_text tableFile head scanned = printed (with_length (length_without_end scanned) (lent_explanation tableFile (kept_text head scanned)))
