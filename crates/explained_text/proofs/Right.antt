-- What is written for what was read of two files is what the program is to write for the files.
use mathlib.Core.Path.{◌≡◌, ap, ◌∙◌}
use mathlib.Core.List.{List, [], flatten}
use Prim.Native.Nat.{ℕ, ◌^◌, ◌<◌}
use native.Mathlib.Omega.{arith}
use lib.ListN.{length, replicate}
use Rattle.explanations.specs.inner.Sizes.{rows_length, edges_length}
use Rattle.explanations.specs.inner.Sizes.{kept_length}
use Rattle.explanations.specs.Printed.{without_end, printed, lent_explanation, explain_text}
use Rattle.explanations.specs.inner.Printed.{with_length}
use Rattle.explanations.proofs.Beginnings.{explanation-begun}
use Rattle.files.specs.declared.Scanned.{Scanned}
use Rattle.files.specs.inner.Scan.{scan_start, Scan, scan_chunks, ScanOf}
use Rattle.files.specs.inner.Files.{Begins, files_text}
use Rattle.files.proofs.Scanning.{start-scanned, chunks-scanned, scanned-length, scanned-text}

pub files_right : (tableFile table head formula : List ℕ) (scanned : Scanned) → Begins tableFile table → ScanOf formula head scanned
    → files_text tableFile head scanned ≡ explain_text table formula
unfolding files_text explain_text
files_right tableFile table head formula scanned (m, enough, begins) h =
    (λ i. printed (with_length (scanned-length formula head scanned h i) (lent_explanation (begins i) (scanned-text formula head scanned h i))))
    ∙ ap printed (explanation-begun (replicate rows_length 0) (replicate edges_length 0) m table (without_end formula) enough)

-- However the formula file is cut into chunks, and whatever stood in the 513 bytes before the first.
pub chunks-right : (tableFile table head : List ℕ) (chunks : List (List ℕ)) → Begins tableFile table → length head ≡ kept_length → length (flatten chunks) < 2 ^ 64
    → let s : Scan = scan_chunks (record { head = head; scanned = scan_start }) chunks in files_text tableFile s.head s.scanned ≡ explain_text table (flatten chunks)
chunks-right tableFile table head chunks begins room fits =
    let start : Scan = record { head = head; scanned = scan_start } in
    let s : Scan = scan_chunks start chunks in
    files_right tableFile table s.head (flatten chunks) s.scanned begins (chunks-scanned [] start chunks (start-scanned head room) (omega arith))
