-- A scan goes on chunk by chunk.
use mathlib.Core.Path.{◌≡◌, refl, sym, ap, ◌∙◌}
use mathlib.Core.List.{List, [], ◌∷◌, ◌++◌}
use Prim.Native.Nat.{ℕ}
use Rattle.files.specs.declared.Scanned.{Scanned}
use Rattle.files.specs.inner.Scan.{Scan, scan_start, scanned_after, kept_after, scan_chunks}
use Rattle.folder.specs.inner.Scanning.{ScannedOn}

chunks_then : (a b : List (List ℕ)) (s : Scan) → scan_chunks s (a ++ b) ≡ scan_chunks (scan_chunks s a) b
chunks_then [] b s = refl
chunks_then (chunk ∷ a) b s = chunks_then a b _

-- No chunk yet.
pub on_start : (head : List ℕ) {scanned : Scanned} → scanned ≡ scan_start → ScannedOn head scan_start head scanned
on_start head s = record { chunks = []; scans = λ i. record { head = head; scanned = sym s i } }

pub on_chunk : (chunk : List ℕ) {head head' : List ℕ} {scanned scanned' : Scanned} → head' ≡ kept_after head scanned.length chunk
    → scanned' ≡ scanned_after scanned chunk → ScannedOn head scanned head' scanned'
on_chunk chunk h s = record { chunks = chunk ∷ []; scans = λ i. record { head = sym h i; scanned = sym s i } }

pub on_then : {head head' head'' : List ℕ} {scanned scanned' scanned'' : Scanned} → ScannedOn head scanned head' scanned'
    → ScannedOn head' scanned' head'' scanned'' → ScannedOn head scanned head'' scanned''
on_then a b = record {
  chunks = a.chunks ++ b.chunks;
  scans = chunks_then a.chunks b.chunks _ ∙ (ap (λ s. scan_chunks s b.chunks) a.scans ∙ b.scans);
}
