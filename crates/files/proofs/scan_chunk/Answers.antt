use Prim.Native.Nat.{◌-◌}
use native.Mathlib.Omega.{arith}
use lib.ListN.{length}
use Rattle.lts.proofs.Laws.Compare.{get_d_any}
use Rattle.files.proofs.Scanning.{scanned-none}
use Rattle.files.proofs.scan_chunk.Goals as goal

pub returns-then-n-eq0 : goal.returns-then-n-eq0
returns-then-n-eq0 c =
    let a = c.args in record { value = scanned-none a.scanned a.chunk.now (omega (arith, c.well_formed)) c.if-n-eq0.true; head_after = c.keep.ensures }

pub returns : goal.returns
returns c =
    let a = c.args in
    let some = get_d_any 0 a.scanned.last a.chunk.now (length a.chunk.now - 1) (omega arith) in
    record { value = (λ i. record { length = c.add.ensures i; last = some i }); head_after = c.keep.ensures }
