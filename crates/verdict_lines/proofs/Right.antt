-- What is written for what was read of two files and a list is what the program is to write for them.
use mathlib.Core.Path.{◌≡◌, refl, sym, ap, ◌∙◌}
use mathlib.Core.Bool.{Bool, true, false}
use mathlib.Core.List.{List, [], flatten}
use mathlib.Core.Option.{Option, none, some}
use Prim.Native.Nat.{ℕ, ◌^◌, ◌≤◌, ◌<◌}
use native.Mathlib.Omega.{arith}
use lib.Dec.{leb}
use lib.ListN.{length, take, length-take}
use lib.Seq.{take_all}
use borrow.Author.Tests.{leb-true, leb-false}
use Rattle.lts.specs.inner.Sizes.{enough_table_text}
use Rattle.lts.specs.Sizes.{most_states}
use Rattle.lts.specs.Steps.{Table}
use Rattle.lts.specs.Reply.{Reply, accepted, refusal}
use Rattle.lts.specs.Reading.{read_table}
use Rattle.lts.proofs.Laws.Refusals.{Numbered}
use Rattle.lts.proofs.Laws.Texts.{text-of-read}
use Rattle.actl.specs.Formulas.{Formula}
use Rattle.actl.specs.Reading.{unless_found}
use Rattle.actl.specs.inner.Reading.{read_formula}
use Rattle.explanations.specs.Explanation.{and_then}
use Rattle.explanations.specs.Printed.{without_end}
use Rattle.explanations.specs.inner.Printed.{with_length}
use Rattle.explanations.specs.inner.Sizes.{kept_length}
use Rattle.explanations.proofs.Beginnings.{NotLength, texts_begun}
use Rattle.files.specs.declared.Scanned.{Scanned}
use Rattle.files.specs.inner.Scan.{scan_start, Scan, scan_chunks, ScanOf}
use Rattle.files.specs.inner.Files.{Begins}
use Rattle.files.proofs.Scanning.{start-scanned, chunks-scanned, scanned-length, scanned-text}
use Rattle.starts.specs.Starts.{wrong_start}
use Rattle.starts.specs.inner.Search.{enough_starts}
use Rattle.starts.proofs.Wrong.{too_many}
use Rattle.starts.proofs.Beginnings.{wrong-later}
use Rattle.verdict_text.specs.VerdictsText.{entries_in, verdict_lines, listed_verdicts, lines_of, verdicts_text}
use Rattle.verdict_text.specs.inner.Sizes.{list_length}
use Rattle.verdict_lines.specs.inner.FileLines.{counted_lines, file_lines}
use Rattle.verdict_text.proofs.Laws.Entries.{entries-count, entries-begun}

abbrev lines_in : List ℕ → Table → Formula → Reply (List ℕ)
lines_in starts t F = unless_found (wrong_start t.states starts) 16 (accepted (verdict_lines t F starts))

not-length : (o : Option ℕ) (r : Reply (List ℕ)) → Numbered NotLength r → Numbered NotLength (unless_found o 16 r)
not-length none r h = h
not-length (some i) r h = λ e. omega arith

lines-begun : (m : ℕ) (table text starts : List ℕ) → enough_table_text ≤ m
    → with_length (length text) (listed_verdicts (take m table) (take kept_length text) starts) ≡ listed_verdicts table text starts
unfolding listed_verdicts
lines-begun m table text starts =
    texts_begun (lines_in starts) (λ t F. not-length (wrong_start t.states starts) (accepted (verdict_lines t F starts)) tt) m table text

-- More than 257 entries are refused as their first 257 are.
list-begun : (table text list : List ℕ) → listed_verdicts table text (entries_in (take list_length list)) ≡ listed_verdicts table text (entries_in list)
unfolding listed_verdicts
list-begun table text list = by (leb (length list) list_length) refl
  where
    long : list_length < length list → (t : Table) (F : Formula) → t.states ≤ most_states → lines_in (entries_in (take list_length list)) t F ≡ lines_in (entries_in list) t F
    long h t F few =
        let begun = entries-begun list (omega arith) in
        let count = entries-count (take list_length list) in
        let (i, found, b) = too_many t.states (take enough_starts (entries_in list)) few (omega (arith, ap length begun, count, length-take list_length list)) in
        ap (λ o. unless_found o 16 (accepted (verdict_lines t F (entries_in (take list_length list))))) (ap (wrong_start t.states) begun ∙ found)
        ∙ ap (λ o. unless_found o 16 (accepted (verdict_lines t F (entries_in list)))) (sym (wrong-later t.states (entries_in list) enough_starts i found))

    by_formula : list_length < length list → (t : Table) → t.states ≤ most_states → (r : Reply Formula)
        → and_then r (lines_in (entries_in (take list_length list)) t) ≡ and_then r (lines_in (entries_in list) t)
    by_formula h t few (accepted F) = long h t F few
    by_formula h t few (refusal n g) = refl

    by_table : list_length < length list → (r : Reply Table) → read_table table ≡ r
        → and_then r (λ t. and_then (read_formula t.names text) (lines_in (entries_in (take list_length list)) t))
        ≡ and_then r (λ t. and_then (read_formula t.names text) (lines_in (entries_in list) t))
    by_table h (accepted t) e = by_formula h t (text-of-read table t e).1.few_states (read_formula t.names text)
    by_table h (refusal n g) e = refl

    by : (b : Bool) → leb (length list) list_length ≡ b
        → and_then (read_table table) (λ t. and_then (read_formula t.names text) (lines_in (entries_in (take list_length list)) t))
        ≡ and_then (read_table table) (λ t. and_then (read_formula t.names text) (lines_in (entries_in list) t))
    by true e = ap (λ l. and_then (read_table table) (λ t. and_then (read_formula t.names text) (lines_in (entries_in l) t))) (take_all list_length list (leb-true (length list) list_length e))
    by false e = by_table (omega (arith, leb-false (length list) list_length e)) (read_table table) refl

pub lines-right : (tableFile table head formula list : List ℕ) (scanned : Scanned) → Begins tableFile table → ScanOf formula head scanned
    → file_lines tableFile head scanned (take list_length list) ≡ verdicts_text table formula list
unfolding file_lines verdicts_text
lines-right tableFile table head formula list scanned (m, enough, begins) h =
    (λ i. counted_lines (scanned-length formula head scanned h i) (listed_verdicts (begins i) (scanned-text formula head scanned h i) (entries_in (take list_length list))))
    ∙ ap lines_of (lines-begun m table (without_end formula) (entries_in (take list_length list)) enough ∙ list-begun table (without_end formula) list)

-- However the formula file is cut into chunks, and whatever stood in the 513 bytes before the first.
pub chunks-lines-right : (tableFile table head list : List ℕ) (chunks : List (List ℕ)) → Begins tableFile table → length head ≡ kept_length
    → length (flatten chunks) < 2 ^ 64
    → let s : Scan = scan_chunks (record { head = head; scanned = scan_start }) chunks in
    file_lines tableFile s.head s.scanned (take list_length list) ≡ verdicts_text table (flatten chunks) list
chunks-lines-right tableFile table head list chunks begins room fits =
    let start : Scan = record { head = head; scanned = scan_start } in
    let s : Scan = scan_chunks start chunks in
    lines-right tableFile table s.head (flatten chunks) list s.scanned begins
    (chunks-scanned [] start chunks (start-scanned head room) (omega arith))
