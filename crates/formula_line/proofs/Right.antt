-- What is written for what was read of two files is what the program is to write for the files.
use mathlib.Core.Path.{◌≡◌, ap, ◌∙◌}
use mathlib.Core.List.{List, [], flatten}
use Prim.Native.Nat.{ℕ, ◌^◌, ◌≤◌, ◌<◌}
use native.Mathlib.Omega.{arith}
use lib.Dec.{leb}
use lib.ListN.{length, take}
use Rattle.lts.specs.inner.Sizes.{enough_table_text}
use Rattle.lts.specs.Reply.{accepted}
use Rattle.lts.proofs.Laws.Refusals.{numbered-unless}
use Rattle.actl.specs.Sizes.{longest_text}
use Rattle.explanations.specs.Printed.{without_end}
use Rattle.explanations.specs.inner.Printed.{with_length}
use Rattle.explanations.specs.inner.Sizes.{kept_length}
use Rattle.explanations.proofs.Beginnings.{NotLength, texts_begun}
use Rattle.written_back.specs.FormulaText.{formula_text}
use Rattle.files.specs.declared.Scanned.{Scanned}
use Rattle.files.specs.inner.Scan.{scan_start, Scan, scan_chunks, ScanOf}
use Rattle.files.specs.inner.Files.{Begins}
use Rattle.files.proofs.Scanning.{start-scanned, chunks-scanned, scanned-length, scanned-text}
use Rattle.formula_line.specs.LineText.{written_back, line_of, line_text}
use Rattle.formula_line.specs.inner.FileLine.{counted_line, file_line}

back_begun : (m : ℕ) (table text : List ℕ) → enough_table_text ≤ m
    → with_length (length text) (written_back (take m table) (take kept_length text)) ≡ written_back table text
unfolding written_back
back_begun =
    texts_begun _ (λ t F.
    let s = formula_text t.names F in
    numbered-unless NotLength (leb (length s) longest_text) 15 (length s) (accepted s) (λ e. omega arith) tt)

pub line-right : (tableFile table head formula : List ℕ) (scanned : Scanned) → Begins tableFile table → ScanOf formula head scanned
    → file_line tableFile head scanned ≡ line_text table formula
unfolding file_line line_text
line-right tableFile table head formula scanned (m, enough, begins) h =
    (λ i. counted_line (scanned-length formula head scanned h i) (written_back (begins i) (scanned-text formula head scanned h i)))
    ∙ ap line_of (back_begun m table (without_end formula) enough)

-- However the formula file is cut into chunks, and whatever stood in the 513 bytes before the first.
pub chunks-line-right : (tableFile table head : List ℕ) (chunks : List (List ℕ)) → Begins tableFile table → length head ≡ kept_length
    → length (flatten chunks) < 2 ^ 64
    → let s : Scan = scan_chunks (record { head = head; scanned = scan_start }) chunks in
    file_line tableFile s.head s.scanned ≡ line_text table (flatten chunks)
chunks-line-right tableFile table head chunks begins room fits =
    let start : Scan = record { head = head; scanned = scan_start } in
    let s : Scan = scan_chunks start chunks in
    line-right tableFile table s.head (flatten chunks) s.scanned begins
    (chunks-scanned [] start chunks (start-scanned head room) (omega arith))
