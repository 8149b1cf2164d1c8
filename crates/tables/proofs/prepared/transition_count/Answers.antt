-- `transition_count` meets its contract: as many transitions as the two bytes say.
use native.Mathlib.Omega.{arith}
use Rattle.lts.proofs.Laws.Contents.{transitions_in}
use Rattle.tables.proofs.prepared.transition_count.Goals as goal

pub returns : goal.returns
returns c =
    let read = c.two_bytes.ensures in
    record { count = omega (arith, read.count, transitions_in c.args.table.now); fits = read.fits }
