-- `find` answers `lookup` over the slots: the invariant is `SoughtFrom`, the slots that are left.
use mathlib.Core.Path.{sym, ◌∙◌}
use Rattle.lts.proofs.Laws.Names.{sought_starts, sought_found, sought_goes_on, sought_ends}
use Rattle.label_names.proofs.find.Goals as goal

pub loop-k-init : goal.loop-k-init
loop-k-init c =
    let a = c.args in sought_starts a.slots.now a.count a.name.now

pub returns-then-same_name : goal.returns-then-same_name
returns-then-same_name c =
    let a = c.args in
    let loop = c.loop-k in
    sought_found a.slots.now a.count a.name.now loop.k loop.invariant c.loop-k-test.true
    (sym c.same_name.ensures ∙ c.if-same_name.true)

pub loop-k-preserved : goal.loop-k-preserved
loop-k-preserved c =
    let a = c.args in
    let loop = c.loop-k in
    sought_goes_on a.slots.now a.count a.name.now loop.k loop.invariant c.loop-k-test.true
    (sym c.same_name.ensures ∙ c.if-same_name.false)

pub returns : goal.returns
returns c =
    let a = c.args in
    sought_ends a.slots.now a.count a.name.now c.loop-k.k c.loop-k.invariant c.loop-k-test.false
