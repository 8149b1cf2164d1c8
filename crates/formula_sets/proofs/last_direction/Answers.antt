-- `last_direction` reads the last byte of the name in its slot.
use mathlib.Core.Path.{◌≡◌, sym, ap, ◌∙◌}
use Prim.Native.Nat.{suc, ◌-◌}
use native.Mathlib.Omega.{arith}
use lib.ListN.{get_or}
use Rattle.lts.specs.Directions.{direction_of_mark, label_direction}
use Rattle.actl.specs.inner.Readers.{names_in}
use Rattle.formula_sets.proofs.LastBytes.{label_by_last, no-mark}
use Rattle.formula_sets.proofs.last_direction.Goals as goal

pub returns-in-63 : goal.returns-in-63
returns-in-63 c =
    let told : label_direction (names_in c.args.table.now) (suc c.args.k) ≡ direction_of_mark (get_or c.args.table.now (c.name_span-span.result.to - 1) 0) = let n = c.name_span-span.ensures in
    label_by_last c.args.table.now c.args.k c.name_span-span.result.to c.requires.0 c.requires.1 (omega (arith, n.starts, n.ends)) n.short in
    sym (told ∙ ap direction_of_mark c.in-63.is)

pub returns-in-33 : goal.returns-in-33
returns-in-33 c =
    let told : label_direction (names_in c.args.table.now) (suc c.args.k) ≡ direction_of_mark (get_or c.args.table.now (c.name_span-span.result.to - 1) 0) = let n = c.name_span-span.ensures in
    label_by_last c.args.table.now c.args.k c.name_span-span.result.to c.requires.0 c.requires.1 (omega (arith, n.starts, n.ends)) n.short in
    sym (told ∙ ap direction_of_mark c.in-33.is)

pub returns-in_default : goal.returns-in_default
returns-in_default c =
    let told : label_direction (names_in c.args.table.now) (suc c.args.k) ≡ direction_of_mark (get_or c.args.table.now (c.name_span-span.result.to - 1) 0) = let n = c.name_span-span.ensures in
    label_by_last c.args.table.now c.args.k c.name_span-span.result.to c.requires.0 c.requires.1 (omega (arith, n.starts, n.ends)) n.short in
    sym (told ∙ no-mark (get_or c.args.table.now (c.name_span-span.result.to - 1) 0) (omega arith) (omega arith))
