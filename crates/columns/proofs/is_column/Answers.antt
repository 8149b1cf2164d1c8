-- `is_column` tells whether six bytes are a column: the invariant is `Compared`, what is left to compare.
use native.Mathlib.Omega.{arith}
use mathlib.Core.Path.{◌≡◌, sym, subst, ◌∙◌}
use Prim.Native.Nat.{ℕ, suc, ◌+◌, ◌-◌, ◌<◌}
use Rattle.columns.proofs.Laws.Scan.{Compared, last_differs, compare_starts, compare_differs, compare_goes_on, compare_ends}
use Rattle.columns.proofs.is_column.Goals as goal

one_more : (i : ℕ) → 0 < i → i ≡ suc (i - 1)
one_more i h = omega arith

pub overflow_cast-text : goal.overflow_cast-text
overflow_cast-text c =
    omega (arith, c.type_inv.text (c.args.at + 5))

pub returns-then-text-at : goal.returns-then-text-at
returns-then-text-at c =
    last_differs c.args.text.now c.args.at c.args.v c.requires.0 c.requires.1 c.if-text-at.true

pub loop-i-init : goal.loop-i-init
loop-i-init c =
    compare_starts c.args.text.now c.args.at c.args.v c.requires.0 c.requires.1 c.if-text-at.false

pub returns-then-text-at-2 : goal.returns-then-text-at-2
returns-then-text-at-2 c =
    let left : Compared c.args.text.now c.args.at c.args.v c.loop-i.n (suc (c.loop-i.i - 1)) = subst (Compared c.args.text.now c.args.at c.args.v c.loop-i.n)
    (one_more c.loop-i.i c.loop-i-test.true) c.loop-i.invariant in
    let l = c.loop-i in
    compare_differs c.args.text.now c.args.at c.args.v c.requires.0 l.n (l.i - 1) (left)
    (λ e. c.if-text-at-2.true (e ∙ sym c.leading.ensures))

pub loop-i-preserved : goal.loop-i-preserved
loop-i-preserved c =
    let left : Compared c.args.text.now c.args.at c.args.v c.loop-i.n (suc (c.loop-i.i - 1)) = subst (Compared c.args.text.now c.args.at c.args.v c.loop-i.n)
    (one_more c.loop-i.i c.loop-i-test.true) c.loop-i.invariant in
    let l = c.loop-i in
    compare_goes_on c.args.text.now c.args.at c.args.v c.requires.0 l.n (l.i - 1) (left)
    (c.if-text-at-2.false ∙ c.leading.ensures)

pub returns : goal.returns
returns c =
    let l = c.loop-i in
    let none : l.i ≡ 0 = omega arith in
    compare_ends c.args.text.now c.args.at c.args.v c.requires.0 l.n
    (subst (Compared c.args.text.now c.args.at c.args.v l.n) none l.invariant)
