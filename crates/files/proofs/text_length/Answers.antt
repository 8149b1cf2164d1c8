use Rattle.files.proofs.Scanning.{none-length, ended-length, unended-length}
use Rattle.files.proofs.text_length.Goals as goal

pub returns-then-n-eq0 : goal.returns-then-n-eq0
returns-then-n-eq0 c =
    none-length c.args.scanned c.if-n-eq0.true

pub returns-then-scanned-eq10 : goal.returns-then-scanned-eq10
returns-then-scanned-eq10 c =
    ended-length c.args.scanned c.if-scanned-eq10.true

pub returns : goal.returns
returns c =
    unended-length c.args.scanned c.if-scanned-eq10.false
