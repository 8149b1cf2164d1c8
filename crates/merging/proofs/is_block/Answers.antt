-- `is_block` meets its contract, by the state's own new block and by what is alike.
use borrow.Author.Rules.{rules}
use mathlib.Core.Path.{sym, ◌∙◌}
use native.Mathlib.Omega.{arith}
use Rattle.lts.proofs.Laws.Decides.{decided_no, decided_by}
use Rattle.merging.proofs.is_block.Goals as goal

pub bounds-new-j : goal.bounds-new-j
bounds-new-j c =
    let p = c.requires in
    omega (arith, p.1.0.few, p.1.1.0)

pub returns-then-wide-j : goal.returns-then-wide-j
returns-then-wide-j c =
    decided_no (λ q. c.if-wide-j.true (c.wide.ensures ∙ q.own))

pub alike-requires : goal.alike-requires
alike-requires c =
    c.requires

pub returns : goal.returns
returns c =
    let own = sym c.wide.ensures ∙ c.if-wide-j.false in
    decided_by c.alike.ensures (λ q. record { own = own; like = q }) (λ q. q.like)
