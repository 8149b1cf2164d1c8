-- What one round more has scanned goes on from what the rounds before it had.
use Rattle.folder.proofs.Scans.{on_then}
use Rattle.folder.proofs.scan_all.Goals as goal

pub returns-then-not-portion : goal.returns-then-not-portion
returns-then-not-portion g c =
    on_then c.loop.invariant c.scan_some-portion.ensures

pub loop-preserved : goal.loop-preserved
loop-preserved g c =
    on_then c.loop.invariant c.scan_some-portion.ensures
