-- `transitions_held` meets its contract: the slots below k are passed, and `least` is above the key of the last of them.
use mathlib.Core.Path.{refl, sym, subst₂}
use Prim.Native.Nat.{ℕ, ◌+◌, ◌*◌, ◌<◌}
use native.Mathlib.Omega.{arith}
use lib.Dec.{leb}
use borrow.Author.Count.{below_more}
use borrow.Author.Tests.{leb-true, le-leb}
use Rattle.lts.specs.inner.Prepared.{byte_at}
use Rattle.lts.specs.inner.Check.{TransitionHeld}
use Rattle.lts.proofs.Laws.Decides.{decided_no, decided_test}
use Rattle.table_check.proofs.Laws.Keys.{Passed, least_next, passed-more, slot-passed, passed-held, held-slot, held-last}
use Rattle.table_check.proofs.transitions_held.Goals as goal

pub transition_count-n-requires : goal.transition_count-n-requires
transition_count-n-requires c =
    c.requires.0

pub state_count-states-requires : goal.state_count-states-requires
state_count-states-requires c =
    c.requires.0

pub label_count-most-requires : goal.label_count-most-requires
label_count-most-requires c =
    c.requires.0

pub loop-k-init : goal.loop-k-init
loop-k-init c =
    record {
      few = omega arith;
      count = c.transition_count-n.ensures.count;
      states-are = c.state_count-states.ensures.count;
      most-is = c.label_count-most.ensures.count;
      next = record { first = λ z. refl; later = λ j e. absurd (omega arith) };
      done = λ j h. absurd (omega arith);
    }

pub slot_held-requires : goal.slot_held-requires
slot_held-requires c =
    (c.requires.0, omega (arith, c.loop-k-test.true, c.loop-k.invariant.count, c.requires.1))

pub returns-then-not-slot_held : goal.returns-then-not-slot_held
returns-then-not-slot_held c =
    let table = c.args.table.now in
    let inv = c.loop-k.invariant in
    let k = c.loop-k.k in
    decided_no (λ h. c.slot_held.ensures.no c.if-not-slot_held.true
    (held-slot table (λ i. omega (arith, c.type_inv.table i)) _ _ c.loop-k.least k inv.next
    (subst₂ (λ (s m : ℕ). TransitionHeld table s m k) (sym inv.states-are) (sym inv.most-is)
    (h k (omega (arith, inv.count, c.loop-k-test.true))))))

pub step_key-least-requires : goal.step_key-least-requires
step_key-least-requires c =
    (c.requires.0, omega (arith, c.loop-k-test.true, c.loop-k.invariant.count, c.requires.1))

pub overflow_add-least : goal.overflow_add-least
overflow_add-least c =
    omega (arith, c.step_key-least.ensures.fits)

pub loop-k-preserved : goal.loop-k-preserved
loop-k-preserved c =
    let table = c.args.table.now in
    let inv = c.loop-k.invariant in
    let k = c.loop-k.k in
    let key = c.step_key-least.ensures.count in
    let slot = c.slot_held.ensures.yes c.if-not-slot_held.false in
    let byte : (i : ℕ) → byte_at table i < 256 = λ i. omega (arith, c.type_inv.table i) in
    record {
      few = omega arith;
      count = inv.count;
      states-are = inv.states-are;
      most-is = inv.most-is;
      next = least_next table k c.step_key-least.result key;
      done = below_more (λ j. Passed table _ _ (c.step_key-least.result + 1) j) k
          (λ j h. passed-more c.loop-k.least _ j (omega (arith, key, slot.rises)) (inv.done j h))
          (slot-passed table byte _ _ c.loop-k.least k c.step_key-least.result key inv.next slot);
    }

pub overflow_mul-result : goal.overflow_mul-result
overflow_mul-result c =
    omega (arith, c.state_count-states.ensures.fits)

pub returns : goal.returns
returns c =
    let table = c.args.table.now in
    let inv = c.loop-k.invariant in
    let states = c.state_count-states.result in
    let byte : (i : ℕ) → byte_at table i < 256 = λ i. omega (arith, c.type_inv.table i) in
    decided_test _ (leb c.loop-k.least (states * 65536)) refl
    (λ e k h. subst₂ (λ (s m : ℕ). TransitionHeld table s m k) inv.states-are inv.most-is
    (passed-held table byte states _ c.loop-k.least k (leb-true _ _ e)
    (inv.done k (omega (arith, inv.count, c.loop-k-test.false)))))
    (λ h. le-leb _ _ (held-last table byte states _ c.loop-k.least c.loop-k.k inv.next (λ k l.
    subst₂ (λ (s m : ℕ). TransitionHeld table s m k) (sym inv.states-are) (sym inv.most-is) (h k (omega (arith, inv.count, inv.few))))))
