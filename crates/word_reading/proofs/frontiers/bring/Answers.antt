-- `frontiers::bring` meets its contract: both masks are as they are brought.
use mathlib.Core.Path.{◌≡◌, ap, ◌∙◌}
use mathlib.Core.Bool.{cond}
use Prim.Native.Nat.{◌+◌, ◌/◌, ◌%◌, ◌^◌}
use lib.Bits.{bit_or}
use lib.ListN.{get_or, set}
use Rattle.frontier.specs.inner.Frontier.{marks_at, places_at, brought}
use borrow.Author.Rules.{rules}
use Rattle.word_reading.proofs.frontiers.bring.Goals as goal

pub returns : goal.returns
unfolding brought
returns c =
    let a = c.args in
    let had : c.kept-had.result ≡ places_at a.frontier.now a.s =
    c.kept-had.ensures ∙ ap (λ b. cond b (get_or a.frontier.now a.s 0) 0) c.has.ensures in
    let bit : c.bit.result ≡ 2 ^ (a.s % 64) = c.bit.ensures in
    (λ i. set (set a.frontier.now a.s (bit_or (had i) a.places)) (256 + a.s / 64) (bit_or (marks_at a.frontier.now a.s) (bit i)))
