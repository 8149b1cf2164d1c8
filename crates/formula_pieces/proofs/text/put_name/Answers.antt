-- `put_name` counts a name's bytes, and copies them if they fit.
use borrow.Author.Rules.{rules}
use mathlib.Core.Path.{◌≡◌, ap, ◌∙◌}
use Prim.Native.Nat.{◌-◌}
use native.Mathlib.Omega.{arith}
use lib.ListN.{length, take, drop}
use Rattle.lts.specs.inner.Prepared.{name_at}
use Rattle.lts.proofs.Laws.SlotNames.{name-length}
use Rattle.formula_pieces.proofs.Laws.Adds.{adds-past, adds_copied}
use Rattle.formula_pieces.proofs.text.put_name.Goals as goal

pub returns-then-end-gt-LONGEST_TEXT : goal.returns-then-end-gt-LONGEST_TEXT
returns-then-end-gt-LONGEST_TEXT c =
    let counted : length (name_at c.args.table.now c.args.k) ≡ c.name_span-span.result.to - c.name_span-span.result.from = let s = c.name_span-span.ensures in
    let few = c.requires.1 in
    omega (arith, name-length c.args.table.now c.requires.0.holds.long c.args.k (omega (arith, few, c.requires.0.holds.in_range.few_labels)) s.short, s.ends) in
    adds-past _ _ _ _ (omega (arith, counted)) c.if-end-gt-LONGEST_TEXT.true

pub returns : goal.returns
returns c =
    let counted : length (name_at c.args.table.now c.args.k) ≡ c.name_span-span.result.to - c.name_span-span.result.from = let s = c.name_span-span.ensures in
    let few = c.requires.1 in
    omega (arith, name-length c.args.table.now c.requires.0.holds.long c.args.k (omega (arith, few, c.requires.0.holds.in_range.few_labels)) s.short, s.ends) in
    let a = c.args in
    let part = c.name_span-span.ensures.name in
    let here : length (take (c.name_span-span.result.to - c.name_span-span.result.from) (drop c.name_span-span.result.from a.table.now))
    ≡ c.name_span-span.result.to - c.name_span-span.result.from = ap length part ∙ counted in
    adds_copied a.at _ a.out.now (omega (arith, here, c.requires.0.room.long, c.if-end-gt-LONGEST_TEXT.false))
    c.copy.ensures.after part (omega (arith, here))
