-- `label` gives a name the bit of its label, and no bit where the table lacks it.
use mathlib.Core.Path.{◌≡◌, sym, ap, ◌∙◌, subst}
use mathlib.Core.Option.{some}
use Prim.Native.Nat.{ℕ, ◌-◌, ◌≤◌}
use native.Mathlib.Omega.{arith}
use lib.ListN.{take, drop}
use Rattle.lts.specs.Names.{lookup}
use Rattle.tables.specs.inner.Access.{found_in}
use Rattle.actl.specs.inner.Readers.{OperandRead, names_in}
use Rattle.actl.proofs.ReadingLabels.{found_range, shifted_one, label-known, label_unknown}
use Rattle.formula_sets.proofs.label.Goals as goal

pub overflow_shl-result : goal.overflow_shl-result
overflow_shl-result c =
    let a = c.args in
    let N = names_in a.source.now.table.now in
    let s = a.source.now.text.now in
    let number : ℕ = c.in-Some.a in
    let found : some number ≡ lookup N (take (a.d.at - a.c.at) (drop a.c.at s)) = ap found_in (sym c.in-Some.is) ∙ c.find_label-x.ensures in
    let number_small : number ≤ 40 = omega (arith, (found_range _ _ number found).1, c.requires.0.table.in_range.few_labels) in
    omega (arith, number_small)

pub returns-in-Some : goal.returns-in-Some
returns-in-Some c =
    let a = c.args in
    let N = names_in a.source.now.table.now in
    let s = a.source.now.text.now in
    let number : ℕ = c.in-Some.a in
    let found : some number ≡ lookup N (take (a.d.at - a.c.at) (drop a.c.at s)) = ap found_in (sym c.in-Some.is) ∙ c.find_label-x.ensures in
    let number_small : number ≤ 40 = omega (arith, (found_range _ _ number found).1, c.requires.0.table.in_range.few_labels) in
    subst (λ m. OperandRead N s a.c.at a.lost a.d.at m a.lost)
    (sym (shifted_one number (number_small)))
    (label-known N s a.c.at a.lost a.d.at c.requires.1 number found)

pub returns-in-None : goal.returns-in-None
returns-in-None c =
    let a = c.args in
    let N = names_in a.source.now.table.now in
    let s = a.source.now.text.now in
    let f = ap found_in (sym c.in-None.is) ∙ c.find_label-x.ensures in
    subst (λ l. OperandRead N s a.c.at a.lost a.d.at 0 l) (sym c.earlier_of.ensures)
    (label_unknown N s a.c.at a.lost a.d.at c.requires.1 f)
