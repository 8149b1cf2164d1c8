-- What was scanned is that of some chunks.
use Rattle.files.specs.inner.Scan.{scan_start}
use Rattle.folder.specs.inner.Scanning.{ScannedOn}
use Rattle.folder.proofs.scan_all.Given as goal

abbrev pub invariant-loop : goal.invariant-loop
invariant-loop g l = ScannedOn l.initial.head scan_start l.head l.scanned
