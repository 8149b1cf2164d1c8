-- What is kept while a file is read: that of some chunks, since nothing says which bytes a file has.
use Rattle.std.specs.Prelude.{◌≡◌, List, ℕ}
use Rattle.files.specs.declared.Scanned.{Scanned}
use Rattle.files.specs.inner.Scan.{scan_chunks}

-- From one state of the scan to a later one.
pub record ScannedOn (head : List ℕ) (scanned : Scanned) (head' : List ℕ) (scanned' : Scanned) : Type 0 where
  pub chunks : List (List ℕ)
  pub scans : scan_chunks (record { head = head; scanned = scanned }) chunks ≡ record { head = head'; scanned = scanned' }
