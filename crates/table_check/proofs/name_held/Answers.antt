-- `name_held` meets its contract: the longest name in the slot ends where the slot says, exactly if the slot holds one.
use mathlib.Core.Path.{◌≡◌, sym, ap, ◌∙◌, subst}
use mathlib.Core.List.{List}
use mathlib.Core.Logic.{inl, inr}
use Prim.Native.Nat.{ℕ, ◌+◌, ◌*◌}
use native.Mathlib.Omega.{arith}
use Rattle.lts.specs.inner.Sizes.{head_length}
use Rattle.lts.specs.Sizes.{name_slot_length}
use Rattle.lts.specs.inner.NameEnds.{name_end}
use Rattle.lts.specs.inner.Prepared.{byte_at}
use Rattle.lts.specs.inner.Check.{ZerosFrom, NameHeld}
use Rattle.lts.proofs.Laws.Decides.{decided_no, decided_by}
use Rattle.lts.proofs.Laws.SlotNames.{name-few, held-end, end-held}
use Rattle.table_check.proofs.name_held.Goals as goal

pub returns-then-end-at : goal.returns-then-end-at
returns-then-end-at c =
    let table : List ℕ = c.args.table.now in
    let place : ℕ = head_length + 1 + c.args.k * name_slot_length in
    let size : ℕ = byte_at table (head_length + c.args.k * name_slot_length) in
    let slot = c.name_span-span.ensures in
    let slot-ends : c.name_span-span.result.to ≡ place + size = slot.ends ∙ ap (λ n. n + size) slot.starts in
    let name-ends : c.read_name-end.result.end ≡ name_end table place = c.read_name-end.ensures.0 ∙ ap (name_end table) slot.starts in
    let held-to-end : NameHeld table c.args.k → c.read_name-end.result.end ≡ c.name_span-span.result.to = λ h.
    name-ends ∙ held-end table c.requires.0 c.args.k c.requires.1 slot.short h ∙ sym slot-ends in
    decided_no (λ h. elim c.then-end-at.either [
      | inl e ↦ omega (arith, held-to-end h, name-few table c.requires.0 c.args.k c.requires.1 slot.short h.name, slot.ends, e)
      | inr d ↦ d.1 (held-to-end h)
    ])

pub returns : goal.returns
returns c =
    let table : List ℕ = c.args.table.now in
    let place : ℕ = head_length + 1 + c.args.k * name_slot_length in
    let size : ℕ = byte_at table (head_length + c.args.k * name_slot_length) in
    let slot-ends : c.name_span-span.result.to ≡ place + size = let slot = c.name_span-span.ensures in slot.ends ∙ ap (λ n. n + size) slot.starts in
    let name-ends : c.read_name-end.result.end ≡ name_end table place = c.read_name-end.ensures.0 ∙ ap (name_end table) c.name_span-span.ensures.starts in
    let whole = c.if-end-span.false ∙ slot-ends in
    let to = head_length + name_slot_length + c.args.k * name_slot_length in
    decided_by c.zeros.ensures
    (λ z. record {
      name = end-held (table) c.requires.0 c.args.k c.requires.1 (sym (name-ends) ∙ whole)
          (λ e. c.if-end-at.false (name-ends ∙ e ∙ sym c.name_span-span.ensures.starts));
      behind = subst (λ n. ZerosFrom (table) n to) whole z;
    })
    (λ h. subst (λ n. ZerosFrom (table) n to) (sym whole) h.behind)
