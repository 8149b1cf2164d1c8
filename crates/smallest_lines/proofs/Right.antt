-- What is written for what was read of two files is what the program is to write for the files.
use mathlib.Core.Path.{◌≡◌, ap, ◌∙◌}
use mathlib.Core.List.{List, [], flatten}
use Prim.Native.Nat.{ℕ, ◌^◌, ◌≤◌, ◌<◌}
use native.Mathlib.Omega.{arith}
use lib.ListN.{length, take}
use Rattle.lts.specs.inner.Sizes.{enough_table_text}
use Rattle.explanations.specs.Printed.{without_end}
use Rattle.explanations.specs.inner.Printed.{with_length}
use Rattle.explanations.specs.inner.Sizes.{kept_length}
use Rattle.explanations.proofs.Beginnings.{texts_begun}
use Rattle.files.specs.declared.Scanned.{Scanned}
use Rattle.files.specs.inner.Scan.{scan_start, Scan, scan_chunks, ScanOf}
use Rattle.files.specs.inner.Files.{Begins}
use Rattle.files.proofs.Scanning.{start-scanned, chunks-scanned, scanned-length, scanned-text}
use Rattle.deterministic.specs.SmallestAsked.{beside_in}
use Rattle.smallest_lines.specs.SmallestText.{lent_smallest, text_of, smallest_text}
use Rattle.smallest_lines.specs.inner.Asking.{lent_rows, lent_edges}
use Rattle.smallest_lines.specs.inner.FileText.{counted_text, file_text}
use Rattle.smallest_lines.proofs.Laws.Numbers.{not-length}

smallest-begun : (m : ℕ) (table text : List ℕ) → enough_table_text ≤ m
    → with_length (length text) (lent_smallest (take m table) (take kept_length text)) ≡ lent_smallest table text
unfolding lent_smallest
smallest-begun = texts_begun (beside_in lent_rows lent_edges) not-length

pub text-right : (tableFile table head formula : List ℕ) (scanned : Scanned) → Begins tableFile table → ScanOf formula head scanned
    → file_text tableFile head scanned ≡ smallest_text table formula
unfolding file_text smallest_text
text-right tableFile table head formula scanned (m, enough, begins) h =
    (λ i. counted_text (scanned-length formula head scanned h i) (lent_smallest (begins i) (scanned-text formula head scanned h i)))
    ∙ ap text_of (smallest-begun m table (without_end formula) enough)

-- However the formula file is cut into chunks, and whatever stood in the 513 bytes before the first.
pub chunks-text-right : (tableFile table head : List ℕ) (chunks : List (List ℕ)) → Begins tableFile table → length head ≡ kept_length
    → length (flatten chunks) < 2 ^ 64
    → let s : Scan = scan_chunks (record { head = head; scanned = scan_start }) chunks in
    file_text tableFile s.head s.scanned ≡ smallest_text table (flatten chunks)
chunks-text-right tableFile table head chunks begins room fits =
    let start : Scan = record { head = head; scanned = scan_start } in
    let s : Scan = scan_chunks start chunks in
    text-right tableFile table s.head (flatten chunks) s.scanned begins
    (chunks-scanned [] start chunks (start-scanned head room) (omega arith))
