-- `alike` meets its contract, by the blocks, the marks and the targets.
use borrow.Author.Rules.{rules}
use mathlib.Core.Bool.{false}
use native.Mathlib.Omega.{arith}
use lib.ListN.{get_or}
use Rattle.lts.proofs.Laws.Decides.{decided_no, decided_by}
use Rattle.merging.proofs.Laws.Signatures.{marks-apart, marks_alike}
use Rattle.merging.proofs.alike.Goals as goal

pub bounds-old-j : goal.bounds-old-j
bounds-old-j c =
    let p = c.requires in
    omega (arith, p.1.0.few, p.1.1.0)

pub bounds-old-k : goal.bounds-old-k
bounds-old-k c =
    let p = c.requires in
    omega (arith, p.1.0.few, p.1.1.1)

pub returns-then-old-j : goal.returns-then-old-j
returns-then-old-j c =
    decided_no (λ q. c.if-old-j.true q.block)

pub returns-then-marks-j : goal.returns-then-marks-j
returns-then-marks-j c =
    let a = c.args in
    decided_no (λ q. marks-apart (get_or a.marks.now a.j false) (get_or a.marks.now a.k false) c.if-marks-j.true q.mark)

pub same_targets-requires : goal.same_targets-requires
same_targets-requires c =
    c.requires

pub returns : goal.returns
returns c =
    let a = c.args in
    let marks = marks_alike (get_or a.marks.now a.j false) (get_or a.marks.now a.k false) c.if-marks-j.false in
    let block = c.if-old-j.false in
    decided_by c.same_targets.ensures (λ f. record { block = block; mark = marks; targets = f }) (λ q. q.targets)
