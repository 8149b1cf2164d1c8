-- `scan_some` goes on by the chunk that was read.
use Rattle.std.proofs.Common.{take}
use Rattle.folder.proofs.Scans.{on_chunk}
use Rattle.folder.proofs.scan_some.Goals as goal

pub returns : goal.returns
returns g c =
    on_chunk (take c.read_full-n.result c.read_full-n.new.buffer) c.scan_chunk.ensures.head_after c.scan_chunk.ensures.value
