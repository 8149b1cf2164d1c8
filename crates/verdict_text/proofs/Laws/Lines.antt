-- The lines of the entries, one behind the other.
use mathlib.Core.Path.{◌≡◌, ◌∙◌}
use mathlib.Core.List.{List, [], ◌∷◌}
use Prim.Native.Nat.{ℕ, ◌+◌, ◌≤◌, ◌<◌}
use native.Mathlib.Nat.{zero-add}
use native.Mathlib.Omega.{arith}
use lib.ListN.{length, get_or, length-append}
use Rattle.columns.specs.Columns.{column}
use Rattle.columns.specs.Lines.{numbers_line}
use Rattle.columns.specs.inner.Write.{pasted}
use Rattle.columns.proofs.Laws.Columns.{column-length}
use Rattle.columns.proofs.Laws.Pasting.{pasting_none, pasting_more}
use Rattle.lts.specs.Lists.{bind}
use Rattle.lts.specs.inner.Lists.{up_from}
use Rattle.lts.proofs.Laws.Pasted.{pasted-start}
use Rattle.explanations.specs.inner.Printed.{TextWritten}
use Rattle.listing_text.specs.inner.Lines.{LinesWritten}
use Rattle.verdict_text.specs.inner.Entries.{entry_line, entry_lines}

pub pair_wide : (a b : ℕ) → a < 1000000 → b < 1000000 → length (numbers_line (a ∷ b ∷ [])) ≡ 13
pair_wide a b h k =
    length-append (column a) (numbers_line (b ∷ [])) ∙ omega (arith, column-length a h, column-length b k, length-append (column b) (numbers_line []))

pub entry-wide : (starts answers : List ℕ) (i : ℕ) → get_or starts i 0 < 256 → get_or answers i 0 < 256 → length (entry_line starts answers i) ≡ 13
entry-wide starts answers i h k = pair_wide _ _ (omega arith) (omega arith)

-- The first line, then the others.
pub all-written : (joint count : ℕ) (starts answers before : List ℕ) {middle out : List ℕ} {first end : ℕ} → end ≤ length before
    → middle ≡ pasted before 0 (numbers_line (joint ∷ count ∷ [])) → first ≡ 0 + length (numbers_line (joint ∷ count ∷ []))
    → LinesWritten (entry_line starts answers) 13 count first middle out end → TextWritten (entry_lines joint count starts answers) before out end
all-written joint count starts answers before {middle} {out} {first} {end} room p e w =
    let line = numbers_line (joint ∷ count ∷ []) in
    let x = pasting_more (pasting_none before 0 (omega arith)) line middle first p e (omega (arith, w.wide)) in
    let y = pasting_more x (bind (entry_line starts answers) (up_from 0 count)) out end w.is w.ends room in
    record { is = y.is ∙ pasted-start before (entry_lines joint count starts answers); ends = y.ends ∙ zero-add _ }
