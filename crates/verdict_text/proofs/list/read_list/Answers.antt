-- `read_list` meets its contract: the entries below i stand in their places.
use mathlib.Core.Path.{◌≡◌, refl, ◌∙◌, subst}
use Prim.Native.Nat.{◌<◌}
use native.Mathlib.Omega.{arith}
use lib.ListN.{length}
use Rattle.starts.specs.inner.Search.{enough_starts}
use Rattle.verdict_text.specs.VerdictsText.{entries_in}
use Rattle.verdict_text.specs.inner.Entries.{ListRead}
use Rattle.verdict_text.proofs.Laws.Entries.{read-on, read_all, read_stopped}
use Rattle.verdict_text.proofs.list.read_list.Goals as goal

pub loop-i-init : goal.loop-i-init
loop-i-init c =
    (omega arith, refl, c.requires.1)

pub entry_at-entry-requires : goal.entry_at-entry-requires
entry_at-entry-requires c =
    let few : c.loop-i.i < enough_starts = omega (arith, c.loop-i-test.true, c.entry_count-end.ensures.upper_bound) in
    few

pub returns-then-entry-ge-STATES : goal.returns-then-entry-ge-STATES
returns-then-entry-ge-STATES c =
    let listed : c.loop-i.i < length (entries_in c.args.list.now) = omega (arith, c.loop-i-test.true, c.entry_count-end.ensures.value) in
    read_stopped _ _ c.loop-i.i _ c.loop-i.invariant (listed) c.entry_at-entry.ensures c.if-entry-ge-STATES.true

pub narrow-requires : goal.narrow-requires
narrow-requires c =
    omega (arith, c.if-entry-ge-STATES.false)

pub bounds-starts-i : goal.bounds-starts-i
bounds-starts-i c =
    let few : c.loop-i.i < enough_starts = omega (arith, c.loop-i-test.true, c.entry_count-end.ensures.upper_bound) in
    few

pub loop-i-preserved : goal.loop-i-preserved
loop-i-preserved c =
    let listed : c.loop-i.i < length (entries_in c.args.list.now) = omega (arith, c.loop-i-test.true, c.entry_count-end.ensures.value) in
    let few : c.loop-i.i < enough_starts = omega (arith, c.loop-i-test.true, c.entry_count-end.ensures.upper_bound) in
    let loop = c.loop-i in
    read-on _ _ loop.i _ loop.invariant (listed) (few) (c.narrow.ensures ∙ c.entry_at-entry.ensures)

pub returns : goal.returns
returns c =
    let loop = c.loop-i in
    let all : loop.i ≡ c.entry_count-end.result = omega arith in
    subst (λ n. ListRead c.args.list.now loop.starts n) all
    (read_all _ _ loop.i loop.invariant (omega (arith, c.loop-i-test.false, c.entry_count-end.ensures.value)))
